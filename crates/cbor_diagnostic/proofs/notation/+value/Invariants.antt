use Rattle.std.proofs.Common.{ℕ, ◌+◌, ◌*◌, true, drop}
use Rattle.cbor_value.specs.View.{view, views, map_view, pair_views}
use Rattle.cbor_diagnostic.specs.Notation.{AreItems, ArePairs}
use Rattle.cbor_diagnostic.proofs.Printing.{SoFar}
use Rattle.cbor_value.proofs.facts.Sizes.{size, sizes, pair_sizes}
use Rattle.cbor_diagnostic.proofs.notation.+value.Given as goal

-- What was written, with a text of the items that are left, is a text of all.
abbrev pub invariant-write_items-loop-item : goal.invariant-write_items-loop-item
invariant-write_items-loop-item g l =
    SoFar g.W.Write.write_str_gives (AreItems l.indent true (views l.items)) (AreItems l.indent l.is_first (views (drop l.item-index l.items))) l.fn.out l.out

abbrev pub invariant-write_pairs-loop-pair : goal.invariant-write_pairs-loop-pair
invariant-write_pairs-loop-pair g l =
    SoFar g.W.Write.write_str_gives (ArePairs l.indent true (pair_views l.pairs)) (ArePairs l.indent l.is_first (pair_views (drop l.pair-index l.pairs))) l.fn.out l.out

abbrev pub decreases-write_value : goal.decreases-write_value
decreases-write_value g l = 4 * size (view l.value.now)

abbrev pub decreases-write_tag : goal.decreases-write_tag
decreases-write_tag g l = 4 * size (view l.inner.now) + 3

abbrev pub decreases-write_array : goal.decreases-write_array
decreases-write_array g l = 4 * sizes (views l.items.now) + 3

abbrev pub decreases-write_items : goal.decreases-write_items
decreases-write_items g l = 4 * sizes (views l.items.now) + 2

abbrev pub decreases-write_map : goal.decreases-write_map
decreases-write_map g l = 4 * pair_sizes (map_view l.map.now) + 3

abbrev pub decreases-write_pairs : goal.decreases-write_pairs
decreases-write_pairs g l = 4 * pair_sizes (pair_views l.pairs.now) + 2

abbrev pub decreases-write_pair : goal.decreases-write_pair
decreases-write_pair g l = 4 * (size (view l.key.now) + size (view l.value.now)) + 1
