use Rattle.std.proofs.Common.{◌≡◌, ◌+◌, ◌≤◌, length}
use Rattle.cbor_value.specs.Pointer.{unescape}
use Rattle.cbor_value.proofs.pointer.unescaped_len.Given as goal

abbrev pub invariant-bytes : goal.invariant-bytes
invariant-bytes l = record {
  counted : l.count + length (unescape l.rest) ≡ length (unescape l.token);
  room : l.count + length l.rest ≤ length l.token;
}

abbrev pub decreases-bytes : goal.decreases-bytes
decreases-bytes l = length l.rest
