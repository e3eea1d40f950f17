use Rattle.std.proofs.Common.{ℕ, refl}
use Rattle.cbor_decode.specs.declared.head.Head.TheVariants.{Bool as BoolHead}
use Rattle.cbor_decode_as.specs.Takes.{formats_of}
use Rattle.cbor_decode_as.proofs.heads.Opened.{head_opens, no_tag}
use Rattle.cbor_decode_as.proofs.numbers.Scalars.{bool_read}
use Rattle.cbor_decode_as.proofs.scalar.bool_at_hand.Goals as goal

pub returns-in-Some-clause-read : goal.returns-in-Some-clause-read
returns-in-Some-clause-read g c =
    let decoder = c.args.decoder.now in
    let f = formats_of decoder.formats in
    let s = g.R.Source.source decoder.source in
    let u = c.boolean.new.self in
    let t = g.R.Source.source u.source in
    let b = c.in-Some.b in
    let opens = head_opens f s t decoder.levels decoder.levels (BoolHead b) (no_tag (BoolHead b) (λ (m : ℕ) e. absurd cc)) refl c.in-Some.ensures.read in
    bool_read g.R.Source.refusals f decoder.levels s t u.refusal b (decoder.levels, opens)
