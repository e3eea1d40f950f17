use Rattle.std.proofs.Common.{◌≡◌, map, take}
use Rattle.cbor_value.specs.View.{view}
use Rattle.cbor_value.proofs.Maps.{both_views}
use Rattle.cbor_value.proofs.clone.+copy.Given as goal

abbrev pub invariant-copy_items-loop-item : goal.invariant-copy_items-loop-item
invariant-copy_items-loop-item l = map view l.copies.items ≡ map view (take l.item-index l.items)

abbrev pub invariant-copy_pairs-loop-pair : goal.invariant-copy_pairs-loop-pair
invariant-copy_pairs-loop-pair l =
    map both_views l.copies.items ≡ map both_views (take l.pair-index l.pairs)
