use Rattle.std.proofs.Common.{sym, subst}
use Rattle.std.specs.Str.{IsUtf8}
use Rattle.cbor_model.specs.Readable.{IsText}
use Rattle.cbor_serde_de.specs.AtHand.{BeginsText}
use Rattle.cbor_serde_de.specs.Given.{ReadsAs}
use Rattle.cbor_serde_de.specs.declared.cbor.Cbor.{Cbor}
use Rattle.cbor_serde_de.proofs.ShortTexts.{text_read}
use Rattle.cbor_serde_de.proofs.cbor.Cbor.text_at_hand.Goals as goal

pub returns : goal.returns
returns c =
    let old = c.args.self.now in
    let source = c.advance.new.self in
    let new : Cbor = record old { decoder = record old.decoder { source = source } } in
    let text = c.in-Ok.text.now in
    let same = c.in-Ok.ensures.cases.0 in
    let begins = subst (BeginsText c.ahead.result.now) (sym same) c.in-Some.ensures in
    let utf8 = subst IsUtf8 (sym same) c.in-Ok.ensures.cases.1 in
    subst (λ b. ReadsAs IsText old b new) (sym c.in_ok-text.ensures.ok)
    (text_read old source _ c.ahead.result.now text begins utf8 (sym c.ahead.ensures.bytes) c.advance.ensures.took)
