use Rattle.std.proofs.Common.{rules, ◌≡◌, ◌-◌, Some, slice_get, arith}
use Rattle.cbor_io.specs.declared.head.Major.TheVariants.{Map}
use Rattle.cbor_decode.proofs.ShortHeads.{short_step}
use Rattle.cbor_decode.proofs.Decoder.short_map.Goals as goal

pub returns-in-Some-160-to-183-clause-read : goal.returns-in-Some-160-to-183-clause-read
returns-in-Some-160-to-183-clause-read g c =
    let here = c.in-Some-160-to-183 in
    let first = here.first in
    let hand = g.R.Source.at_hand c.args.self.now.source in
    let front : slice_get hand 0 ≡ Some first = search rules in
    short_step first (first - 160) Map (λ e. absurd cc) (omega (arith, here)) (omega (arith, here)) (omega (arith, here)) _ _ hand front c.advance.ensures.took
