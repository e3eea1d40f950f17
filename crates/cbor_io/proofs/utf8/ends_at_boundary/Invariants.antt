use Rattle.std.proofs.Common.{◌≡◌, ◌≤◌, ◌-◌, length, take}
use Rattle.cbor_io.specs.Utf8.{boundary, after_bytes, place}
use Rattle.cbor_io.proofs.utf8.ends_at_boundary.Given as goal

abbrev pub invariant-loop-at : goal.invariant-loop-at
invariant-loop-at l =
    (l.at ≤ length l.bytes) × (l.state ≡ place (after_bytes boundary (take l.at l.bytes)))

abbrev pub decreases-loop-at : goal.decreases-loop-at
decreases-loop-at l = length l.bytes - l.at
