use Rattle.std.proofs.Common.{◌≡◌, ◌+◌, take}
use Rattle.cbor_serde_de.specs.PickedNames.{count_read}
use Rattle.cbor_serde_de.proofs.places.place_of_number.Given as goal

abbrev pub invariant-loop-at : goal.invariant-loop-at
invariant-loop-at l = l.left + count_read (take l.at l.names) ≡ l.n
