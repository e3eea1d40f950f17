use Rattle.std.proofs.Common.{rules, ◌≡◌, Some, slice_get, true, false}
use Rattle.cbor_decode.proofs.WholeHeads.{bool_step, false_head, true_head}
use Rattle.cbor_decode.proofs.Decoder.boolean.Goals as goal

pub returns-in-Some-eq244-clause-read : goal.returns-in-Some-eq244-clause-read
returns-in-Some-eq244-clause-read g c =
    let hand = g.R.Source.at_hand c.args.self.now.source in
    let front : slice_get hand 0 ≡ Some 244 = search rules in
    bool_step _ _ hand 244 false false_head front c.advance.ensures.took

pub returns-in-Some-eq245-clause-read : goal.returns-in-Some-eq245-clause-read
returns-in-Some-eq245-clause-read g c =
    let hand = g.R.Source.at_hand c.args.self.now.source in
    let front : slice_get hand 0 ≡ Some 245 = search rules in
    bool_step _ _ hand 245 true true_head front c.advance-in-Some-eq245.ensures.took
