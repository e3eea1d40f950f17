-- What is left, with what was gone through, is all of it.
use Rattle.std.proofs.Common.{drop}
use Rattle.cbor_model.specs.InMemory.{AreInMemory, ArePairsInMemory}
use Rattle.cbor_value.specs.View.{views, pair_views}
use Rattle.cbor_value.proofs.memory.+memory.Given as goal

abbrev pub invariant-walk_items-loop-item : goal.invariant-walk_items-loop-item
invariant-walk_items-loop-item l = AreInMemory (views (drop l.item-index l.items)) → AreInMemory (views l.items)

abbrev pub invariant-walk_pairs-loop-pair : goal.invariant-walk_pairs-loop-pair
invariant-walk_pairs-loop-pair l = ArePairsInMemory (pair_views (drop l.pair-index l.pairs)) → ArePairsInMemory (pair_views l.pairs)
