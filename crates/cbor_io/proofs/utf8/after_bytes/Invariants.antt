use Rattle.std.proofs.Common.{◌≡◌, take}
use Rattle.cbor_io.specs.Utf8.{Utf8State, after_bytes, place}
use Rattle.cbor_io.proofs.utf8.after_bytes.Given as goal

abbrev pub invariant-loop-byte : goal.invariant-loop-byte
invariant-loop-byte l =
    (s : Utf8State) → l.start ≡ place s
    → l.state ≡ place (after_bytes s (take l.byte-index l.bytes))
