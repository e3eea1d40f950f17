use Rattle.std.proofs.Common.{◌+◌, ◌*◌, drop}
use Rattle.serde.specs.Event.{Log}
use Rattle.cbor_value.specs.View.{view, views, map_view, pair_views}
use Rattle.cbor_serde_value.specs.Sent.{SendsAll, SendsPairs}
use Rattle.cbor_value.proofs.facts.Sizes.{size, sizes, pair_sizes}
use Rattle.cbor_serde_value.proofs.send.+send.Given as goal

-- whatever the rest sends from here, all send from the start
abbrev pub invariant-send_items-loop-item : goal.invariant-send_items-loop-item
invariant-send_items-loop-item g l =
    (end : Log) → SendsAll (views (drop l.item-index l.items)) (g.S.Serializer.written l.out) end → SendsAll (views l.items) (g.S.Serializer.written l.initial.out) end

abbrev pub invariant-send_pairs-loop-pair : goal.invariant-send_pairs-loop-pair
invariant-send_pairs-loop-pair g l =
    (end : Log) → SendsPairs (pair_views (drop l.pair-index l.pairs)) (g.S.Serializer.written l.out) end → SendsPairs (pair_views l.pairs) (g.S.Serializer.written l.initial.out) end

abbrev pub decreases-send : goal.decreases-send
decreases-send g l = 4 * size (view l.value.now)

abbrev pub decreases-send_array : goal.decreases-send_array
decreases-send_array g l = 4 * sizes (views l.items.now) + 3

abbrev pub decreases-send_items : goal.decreases-send_items
decreases-send_items g l = 4 * sizes (views l.items.now) + 2

abbrev pub decreases-send_map : goal.decreases-send_map
decreases-send_map g l = 4 * pair_sizes (map_view l.map.now) + 3

abbrev pub decreases-send_pairs : goal.decreases-send_pairs
decreases-send_pairs g l = 4 * pair_sizes (pair_views l.pairs.now) + 2

abbrev pub decreases-send_pair : goal.decreases-send_pair
decreases-send_pair g l = 4 * (size (view l.key.now) + size (view l.value.now)) + 1
