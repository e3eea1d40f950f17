use Rattle.std.proofs.Common.{◌≡◌, drop}
use Rattle.cbor_io.specs.Compare.{big_endian, big_endian_after}
use Rattle.cbor_tags.proofs.number.number_of.Given as goal

abbrev pub invariant-loop-byte : goal.invariant-loop-byte
invariant-loop-byte l = big_endian_after l.number (drop l.byte-index l.bytes) ≡ big_endian l.bytes
