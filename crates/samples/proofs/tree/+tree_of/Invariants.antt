use Rattle.std.proofs.Common.{take}
use Rattle.serde_cbor.specs.View.{views}
use Rattle.samples.specs.Trees.{AreTrees}
use Rattle.samples.proofs.tree.+tree_of.Given as goal

abbrev pub invariant-trees_of-loop-item : goal.invariant-trees_of-loop-item
invariant-trees_of-loop-item l = AreTrees (views (take l.item-index l.items)) l.trees.items
