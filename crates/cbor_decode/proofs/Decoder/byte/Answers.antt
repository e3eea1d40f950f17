use Rattle.std.proofs.Common.{rules, ◌≡◌, Some, slice_get}
use Rattle.cbor_decode.proofs.SourceCalls.{hand_step}
use Rattle.cbor_decode.proofs.Decoder.byte.Goals as goal

pub returns-in-Some-clause-read : goal.returns-in-Some-clause-read
returns-in-Some-clause-read g c =
    let hand = g.R.Source.at_hand c.args.self.now.source in
    let front : slice_get hand 0 ≡ Some c.in-Some.first = search rules in
    hand_step _ _ hand c.in-Some.first front c.advance.ensures.took
