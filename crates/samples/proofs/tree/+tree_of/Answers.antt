use Rattle.std.proofs.Common.{rules, List, subst}
use Rattle.std.proofs.lemmas.Result.{err_from_is_err_and}
use Rattle.serde_cbor.specs.View.{views}
use Rattle.cbor_value.specs.declared.Value.{Value}
use Rattle.samples.specs.Trees.{AreTrees, RefusesTrees}
use Rattle.samples.proofs.Trees.{node_is, node_lacks, trees_more, trees_lack}
use Rattle.samples.proofs.tree.+tree_of.Goals as goal

pub tree_of-returns-in_ok-trees_of-in-Array-clause-tree : goal.tree_of-returns-in_ok-trees_of-in-Array-clause-tree
tree_of-returns-in_ok-trees_of-in-Array-clause-tree t c =
    let ts = c.in_ok-trees_of-in-Array.field-0 in
    let are : AreTrees (views c.in-Array.items.items) ts.items = subst (λ (vs : List Value). AreTrees (views vs) ts.items) c.deref.ensures.value c.in_ok-trees_of-in-Array.ensures.trees in
    rw c.in-Array.is (node_is c.in-Array.items ts are)

pub tree_of-returns-in_err-trees_of-in-Array-clause-none : goal.tree_of-returns-in_err-trees_of-in-Array-clause-none
tree_of-returns-in_err-trees_of-in-Array-clause-none t c =
    let e = c.in_err-trees_of-in-Array.field-0.0 in
    let p = err_from_is_err_and c.from_residual.result c.from_residual.ensures.1 in
    let lack : RefusesTrees (views c.in-Array.items.items) e = subst (λ (vs : List Value). RefusesTrees (views vs) e) c.deref.ensures.value c.in_err-trees_of-in-Array.ensures.none in
    rw (p.1, p.2) (rw c.in-Array.is (node_lacks c.in-Array.items e lack))

pub trees_of-returns-in_err-tree-clause-none : goal.trees_of-returns-in_err-tree-clause-none
trees_of-returns-in_err-tree-clause-none t c =
    let p = err_from_is_err_and c.from_residual-in_err-tree.result c.from_residual-in_err-tree.ensures.1 in
    rw (p.1, p.2) (trees_lack c.args.items.now c.loop-item.item-index c.item-item.result c.in_err-tree.field-0.0 (search rules) c.item-item.is c.in_err-tree.ensures.none)

pub trees_of-loop-item-preserved : goal.trees_of-loop-item-preserved
trees_of-loop-item-preserved t c =
    rw (c.in_ok-push.ensures.items) (trees_more c.args.items.now c.loop-item.item-index c.item-item.result c.loop-item.trees.items c.in_ok-tree.tree (search rules) c.item-item.is c.loop-item.invariant c.in_ok-tree.ensures.tree)
