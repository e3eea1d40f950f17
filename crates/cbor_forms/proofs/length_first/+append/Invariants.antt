use Rattle.std.proofs.Common.{◌≡◌, ◌+◌, ◌*◌, ◌++◌, map, take, drop}
use Rattle.cbor_value.specs.View.{view, views, map_view, pair_views}
use Rattle.cbor_forms.specs.LengthFirst.{all_length_first}
use Rattle.cbor_forms.proofs.Shortening.{both_views}
use Rattle.cbor_forms.proofs.Encoding.{both_encoded}
use Rattle.cbor_value.proofs.facts.Sizes.{size, sizes, pair_sizes}
use Rattle.cbor_forms.proofs.length_first.+append.Given as goal

-- What was written, with what is left, is all of it.
abbrev pub invariant-append_items-loop-item : goal.invariant-append_items-loop-item
invariant-append_items-loop-item l =
    l.out.items ++ all_length_first (views (drop l.item-index l.items))
    ≡ l.fn.out.items ++ all_length_first (views l.items)

abbrev pub invariant-encode_pairs-loop-pair : goal.invariant-encode_pairs-loop-pair
invariant-encode_pairs-loop-pair l =
    map both_views l.strings.items ≡ map both_encoded (take l.pair-index l.pairs)

abbrev pub decreases-append : goal.decreases-append
decreases-append l = 4 * size (view l.value.now)

abbrev pub decreases-append_tag : goal.decreases-append_tag
decreases-append_tag l = 4 * size (view l.inner.now) + 3

abbrev pub decreases-append_array : goal.decreases-append_array
decreases-append_array l = 4 * sizes (views l.items.now) + 3

abbrev pub decreases-append_items : goal.decreases-append_items
decreases-append_items l = 4 * sizes (views l.items.now) + 2

abbrev pub decreases-append_map : goal.decreases-append_map
decreases-append_map l = 4 * pair_sizes (map_view l.map.now) + 3

abbrev pub decreases-encode_pairs : goal.decreases-encode_pairs
decreases-encode_pairs l = 4 * pair_sizes (pair_views l.pairs.now) + 2

abbrev pub decreases-encode_pair : goal.decreases-encode_pair
decreases-encode_pair l = 4 * (size (view l.key.now) + size (view l.value.now)) + 1
