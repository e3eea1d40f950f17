use Rattle.std.proofs.Common.{◌≡◌, subst}
use Rattle.std.specs.Prelude.{IfOk, MatchOption, string_bytes}
use Rattle.cbor_model.specs.Readable.{IsText}
use Rattle.cbor_serde_de.specs.Given.{ReadsAs}
use Rattle.cbor_serde_de.specs.declared.cbor.Cbor.{Cbor}
use Rattle.cbor_serde_de.proofs.format.CborFormat.string.Goals as goal

pub returns-in-None : goal.returns-in-None
returns-in-None c =
    let mid = c.text_at_hand.new.self in
    let new = c.any_string.new.self in
    let same = subst (λ o. MatchOption o (mid ≡ c.args.self.now) (λ text. ReadsAs IsText c.args.self.now (string_bytes text) mid)) c.in-None.is c.in_ok-text.ensures in
    subst (λ (old : Cbor). IfOk c.any_string.result (λ s. ReadsAs IsText old (string_bytes s) new)) same c.any_string.ensures
