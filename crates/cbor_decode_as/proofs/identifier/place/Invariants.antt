use Rattle.std.proofs.Common.{length, ◌-◌, ◌≤◌}
use Rattle.cbor_decode_as.specs.Identifiers.{texts}
use Rattle.cbor_decode_as.proofs.texts.Identifiers.{NoneBefore}
use Rattle.cbor_decode_as.proofs.identifier.place.Given as goal

abbrev pub invariant-names : goal.invariant-names
invariant-names l = record {
  below : l.i ≤ length l.names;
  before : NoneBefore (texts l.names) l.text l.i;
}

abbrev pub decreases-names : goal.decreases-names
decreases-names l = length l.names - l.i
