use Rattle.std.proofs.Common.{ℕ, pos, refl}
use Rattle.cbor_model.specs.Readable.{IsFromZero}
use Rattle.cbor_decode.specs.declared.head.Head.TheVariants.{Unsigned}
use Rattle.cbor_decode_as.specs.Takes.{formats_of}
use Rattle.cbor_decode_as.proofs.heads.Opened.{head_opens, no_tag}
use Rattle.cbor_decode_as.proofs.numbers.Numbers.{number_read}
use Rattle.cbor_decode_as.proofs.integer.from_zero_at_hand.Goals as goal

pub returns-in-Some-clause-read : goal.returns-in-Some-clause-read
returns-in-Some-clause-read g c =
    let decoder = c.args.decoder.now in
    let f = formats_of decoder.formats in
    let s = g.R.Source.source decoder.source in
    let u = c.unsigned.new.self in
    let t = g.R.Source.source u.source in
    let n = c.in-Some.number in
    let opens = head_opens f s t decoder.levels decoder.levels (Unsigned n) (no_tag (Unsigned n) (λ (m : ℕ) e. absurd cc)) refl c.in-Some.ensures.read in
    number_read g.R.Source.refusals f (IsFromZero c.args.most) decoder.levels s t u.refusal (Unsigned n) (pos n) n (λ r is. (is, c.in-Some.ensures.bound)) refl (decoder.levels, opens)
