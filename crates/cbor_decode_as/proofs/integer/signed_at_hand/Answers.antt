use Rattle.std.proofs.Common.{rules, ℕ, pos, negsuc, refl, arith, FitsSigned}
use Rattle.std.specs.Int.{w64}
use Rattle.std.proofs.lemmas.Int.{to_z_pos, to_z-of_z}
use Rattle.cbor_model.specs.Readable.{IsSigned, IsWithin}
use Rattle.cbor_decode.specs.declared.head.Head.TheVariants.{Unsigned, Negative}
use Rattle.cbor_decode_as.specs.Takes.{formats_of}
use Rattle.cbor_decode_as.proofs.heads.Opened.{head_opens, no_tag}
use Rattle.cbor_decode_as.proofs.numbers.Numbers.{number_read}
use Rattle.cbor_decode_as.proofs.integer.signed_at_hand.Goals as goal

pub returns-in-Some-clause-read : goal.returns-in-Some-clause-read
returns-in-Some-clause-read g c =
    let decoder = c.args.decoder.now in
    let f = formats_of decoder.formats in
    let s = g.R.Source.source decoder.source in
    let u = c.unsigned.new.self in
    let t = g.R.Source.source u.source in
    let n = c.in-Some.number in
    let within : IsWithin c.args.most (pos n) = search rules in
    let opens = head_opens f s t decoder.levels decoder.levels (Unsigned n) (no_tag (Unsigned n) (λ (m : ℕ) e. absurd cc)) refl c.in-Some.ensures.read in
    rw (to_z_pos w64 n (omega (arith, c.in-Some.ensures.bound, c.requires)))
    (number_read g.R.Source.refusals f (IsSigned c.args.most) decoder.levels s t u.refusal (Unsigned n) (pos n) (pos n) (λ r is. (is, within)) refl (decoder.levels, opens))

pub returns-in-Some-negative-clause-read : goal.returns-in-Some-negative-clause-read
returns-in-Some-negative-clause-read g c =
    let decoder = c.args.decoder.now in
    let f = formats_of decoder.formats in
    let s = g.R.Source.source decoder.source in
    let u = c.negative.new.self in
    let t = g.R.Source.source u.source in
    let n = c.in-Some-negative.number in
    let within : IsWithin c.args.most (negsuc n) = search rules in
    let head = rw c.in_default.ensures.read at c.in-Some-negative.ensures.read in
    let opens = head_opens f s t decoder.levels decoder.levels (Negative n) (no_tag (Negative n) (λ (m : ℕ) e. absurd cc)) refl head in
    let fits : FitsSigned w64 (negsuc n) = search rules in
    rw (c.below_zero.ensures, to_z-of_z w64 (negsuc n) fits)
    (number_read g.R.Source.refusals f (IsSigned c.args.most) decoder.levels s t u.refusal (Negative n) (negsuc n) (negsuc n) (λ r is. (is, within)) refl (decoder.levels, opens))
