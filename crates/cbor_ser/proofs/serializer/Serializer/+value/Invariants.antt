use Rattle.std.proofs.Common.{◌+◌, ◌*◌, Some, drop}
use Rattle.std.specs.Prelude.{Result}
use Rattle.cbor_model.specs.Document.{documents_of, document_pairs_of}
use Rattle.cbor_model.specs.Parts.{items, pairs, ending}
use Rattle.cbor_io.specs.declared.error.Error.{Error}
use Rattle.cbor_value.specs.View.{view, views, map_view, pair_views}
use Rattle.cbor_value.proofs.facts.Sizes.{size, sizes, pair_sizes}
use Rattle.cbor_ser.specs.Serialized.{Serialized}
use Rattle.cbor_ser.specs.declared.serializer.Serializer.{Serializer}
use Rattle.cbor_ser.proofs.serializer.Serializer.+value.Given as goal

-- What is written next, with what follows, is all of it.
abbrev pub invariant-write_values-loop-one : goal.invariant-write_values-loop-one
invariant-write_values-loop-one g l = (new : Serializer g.row.W.Denot) (r : Result (Unit {0}) Error)
    → Serialized g.W.Write.written g.W.Write.refuses g.W.Write.references g.W.Write.capacity l.self (items (documents_of (views (drop l.one-index l.list))) (ending (Some 0))) new r
    → Serialized g.W.Write.written g.W.Write.refuses g.W.Write.references g.W.Write.capacity l.fn.self (items (documents_of (views l.list)) (ending (Some 0))) new r

abbrev pub invariant-write_pairs-loop-key : goal.invariant-write_pairs-loop-key
invariant-write_pairs-loop-key g l = (new : Serializer g.row.W.Denot) (r : Result (Unit {0}) Error)
    → Serialized g.W.Write.written g.W.Write.refuses g.W.Write.references g.W.Write.capacity l.self (pairs (document_pairs_of (pair_views (drop l.key-index l.list))) (ending (Some 0))) new r
    → Serialized g.W.Write.written g.W.Write.refuses g.W.Write.references g.W.Write.capacity l.fn.self (pairs (document_pairs_of (pair_views l.list)) (ending (Some 0))) new r

abbrev pub decreases-write_by_items : goal.decreases-write_by_items
decreases-write_by_items g l = 3 * size (view l.value.now)

abbrev pub decreases-write_tagged : goal.decreases-write_tagged
decreases-write_tagged g l = 3 * size (view l.inner.now) + 2

abbrev pub decreases-write_list : goal.decreases-write_list
decreases-write_list g l = 3 * sizes (views l.list.now) + 2

abbrev pub decreases-write_values : goal.decreases-write_values
decreases-write_values g l = 3 * sizes (views l.list.now) + 1

abbrev pub decreases-write_map : goal.decreases-write_map
decreases-write_map g l = 3 * pair_sizes (map_view l.map.now) + 2

abbrev pub decreases-write_pairs : goal.decreases-write_pairs
decreases-write_pairs g l = 3 * pair_sizes (pair_views l.list.now) + 1
