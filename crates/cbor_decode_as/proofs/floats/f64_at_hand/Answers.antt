use Rattle.std.proofs.Common.{ℕ, refl}
use Rattle.cbor_model.specs.Reader.{item_at}
use Rattle.cbor_value.specs.declared.Float.TheVariants.{Double}
use Rattle.cbor_decode.specs.declared.head.Head.TheVariants.{Float}
use Rattle.cbor_decode_as.specs.Takes.{formats_of, raws}
use Rattle.cbor_decode_as.proofs.numbers.FloatNumbers.{double_read}
use Rattle.cbor_decode_as.proofs.heads.Opened.{head_opens, no_tag}
use Rattle.cbor_decode_as.proofs.numbers.Scalars.{float_read}
use Rattle.cbor_decode_as.proofs.floats.f64_at_hand.Goals as goal

pub returns-in-Some-clause-read : goal.returns-in-Some-clause-read
returns-in-Some-clause-read g c =
    let decoder = c.args.decoder.now in
    let f = formats_of decoder.formats in
    let s = g.R.Source.source decoder.source in
    let t = g.R.Source.source c.double.new.self.source in
    let float = Double c.in-Some.bits in
    let x = c.f64_from_bits_with_nan.result in
    let opens = head_opens f s t decoder.levels decoder.levels (Float float) (no_tag (Float float) (λ (n : ℕ) e. absurd cc)) refl c.in-Some.ensures.read in
    double_read g.R.Source.refusals (λ l bs. item_at (raws f l) decoder.levels bs) s t float x c.f64_from_bits_with_nan.ensures
    (float_read g.R.Source.refusals f decoder.levels s t c.double.new.self.refusal float (decoder.levels, opens))
