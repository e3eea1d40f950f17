use Rattle.std.proofs.Common.{rules, ◌≡◌, ◌-◌, Some, slice_get, length, take, drop}
use Rattle.std.specs.Array.{IsFirstChunk}
use Rattle.std.specs.Int.{w64}
use Rattle.cbor_value.specs.declared.Float.TheVariants.{Double}
use Rattle.cbor_decode.specs.declared.head.Head.TheVariants.{Float}
use Rattle.cbor_decode.proofs.AtHand.{float_step, double_begins}
use Rattle.cbor_decode.proofs.Decoder.double.Goals as goal

pub returns-in-Some-clause-read : goal.returns-in-Some-clause-read
returns-in-Some-clause-read g c =
    let hand = g.R.Source.at_hand c.args.self.now.source in
    let front : slice_get hand 0 ≡ Some 251 = search rules in
    let bytes = c.in-Some.bytes.now in
    let chunk : IsFirstChunk (take (length hand - 1) (drop 1 hand)) bytes 8 = search rules in
    float_step 251 w64 (λ bits. Float (Double bits)) double_begins _ _ hand bytes c.from_be_bytes-bits.result front chunk c.from_be_bytes-bits.ensures c.advance.ensures.took
