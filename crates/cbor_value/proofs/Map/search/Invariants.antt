use Rattle.std.proofs.Common.{◌≡◌, ◌+◌, ◌-◌, ◌≤◌, drop, length}
use Rattle.cbor_model.specs.Canonical.{IsBelow, KeysAscend}
use Rattle.cbor_value.specs.Search.{binary_digits}
use Rattle.cbor_value.specs.View.{map_view, pair_views}
use Rattle.cbor_value.proofs.Maps.{Passed}
use Rattle.cbor_value.proofs.Map.search.Given as goal

abbrev pub invariant-halves : goal.invariant-halves
invariant-halves g l =
    let pairs = l.self.pairs.items in
    let k = g.K.Key.stands_for l.key in
    record {
      ordered : l.start ≤ l.end;
      in_range : l.end ≤ length pairs;
      above : KeysAscend (map_view l.self) → Passed k l.start (map_view l.self);
      below : KeysAscend (map_view l.self) → IsBelow k (pair_views (drop l.end pairs));
      few : l.count + binary_digits (l.end - l.start) ≤ binary_digits (length pairs);
      some : l.count ≡ 0 → l.end - l.start ≡ length pairs;
    }

abbrev pub decreases-halves : goal.decreases-halves
decreases-halves g l = l.end - l.start
