use Rattle.std.proofs.Common.{◌≡◌, ◌+◌, ◌*◌, map, take, drop}
use Rattle.cbor_value.specs.View.{view, views, map_view, pair_views}
use Rattle.cbor_forms.specs.Shortened.{AllowsAll, AllowsPairs}
use Rattle.cbor_forms.proofs.Shortening.{other, both_views, both_other}
use Rattle.cbor_value.proofs.facts.Sizes.{size, sizes, pair_sizes}
use Rattle.cbor_forms.proofs.values.+rewrite.Given as goal

abbrev pub invariant-rewrite_items-loop-item : goal.invariant-rewrite_items-loop-item
invariant-rewrite_items-loop-item l = record {
  rewritten : map view l.others.items ≡ map (other l.form) (take l.item-index l.items);
  allowed : AllowsAll l.form (views (drop l.item-index l.items)) → AllowsAll l.form (views l.items);
}

abbrev pub invariant-rewrite_pairs-loop-pair : goal.invariant-rewrite_pairs-loop-pair
invariant-rewrite_pairs-loop-pair l = record {
  rewritten : map both_views l.others.items ≡ map (both_other l.form) (take l.pair-index l.pairs);
  allowed : AllowsPairs l.form (pair_views (drop l.pair-index l.pairs))
      → AllowsPairs l.form (pair_views l.pairs);
}

abbrev pub decreases-rewrite : goal.decreases-rewrite
decreases-rewrite l = 4 * size (view l.value.now)

abbrev pub decreases-rewrite_items : goal.decreases-rewrite_items
decreases-rewrite_items l = 4 * sizes (views l.items.now) + 1

abbrev pub decreases-rewrite_map : goal.decreases-rewrite_map
decreases-rewrite_map l = 4 * pair_sizes (map_view l.map.now) + 3

abbrev pub decreases-rewrite_pairs : goal.decreases-rewrite_pairs
decreases-rewrite_pairs l = 4 * pair_sizes (pair_views l.pairs.now) + 2

abbrev pub decreases-rewrite_pair : goal.decreases-rewrite_pair
decreases-rewrite_pair l = 4 * (size (view l.key.now) + size (view l.value.now)) + 1
