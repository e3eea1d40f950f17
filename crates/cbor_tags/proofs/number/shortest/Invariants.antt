use Rattle.std.proofs.Common.{◌≡◌, reverse}
use Rattle.cbor_io.specs.Compare.{big_endian_after}
use Rattle.cbor_tags.specs.Numbers.{HasNoLeadingZero}
use Rattle.cbor_tags.proofs.number.shortest.Given as goal

abbrev pub invariant-loop-rest : goal.invariant-loop-rest
invariant-loop-rest l = record {
  value : big_endian_after l.rest (reverse l.bytes.items) ≡ l.fn.number;
  shortest : l.rest ≡ 0 → HasNoLeadingZero (reverse l.bytes.items);
}

abbrev pub decreases-loop-rest : goal.decreases-loop-rest
decreases-loop-rest l = l.rest
