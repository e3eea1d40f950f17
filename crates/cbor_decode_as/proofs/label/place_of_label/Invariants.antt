use Rattle.std.proofs.Common.{length, ◌-◌, ◌≤◌}
use Rattle.cbor_decode_as.proofs.texts.Identifiers.{NoneBefore}
use Rattle.cbor_decode_as.proofs.label.place_of_label.Given as goal

abbrev pub invariant-labels : goal.invariant-labels
invariant-labels l = record {
  below : l.i ≤ length l.labels;
  before : NoneBefore l.labels l.fn.label l.i;
}

abbrev pub decreases-labels : goal.decreases-labels
decreases-labels l = length l.labels - l.i
