use Rattle.std.proofs.Common.{◌≡◌, length, IsUtf8}
use Rattle.cbor_model.specs.Canonical.{IsOrdered}
use Rattle.cbor_value.specs.Pointer.{pointer, tokens, walk}
use Rattle.cbor_value.specs.View.{view}
use Rattle.cbor_value.proofs.Value.pointer.Given as goal

abbrev pub invariant-tokens : goal.invariant-tokens
invariant-tokens l = record {
  ordered : IsOrdered (view l.fn.self) → IsOrdered (view l.target);
  same : IsOrdered (view l.fn.self)
      → pointer l.fn.path (view l.fn.self) ≡ walk (tokens l.rest) (view l.target);
  utf8 : IsUtf8 l.rest;
}

abbrev pub decreases-tokens : goal.decreases-tokens
decreases-tokens l = length l.rest
