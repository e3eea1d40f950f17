use Rattle.std.proofs.Common.{◌≡◌}
use Rattle.cbor_value.specs.View.{view}
use Rattle.cbor_value.proofs.Maps.{both_views, copied_more, copied_views, copied_pairs}
use Rattle.cbor_value.proofs.clone.+copy.Goals as goal

pub copy_items-loop-item-preserved : goal.copy_items-loop-item-preserved
copy_items-loop-item-preserved t c =
    rw c.in_ok-push.ensures.items
    (copied_more view c.loop-item.copies.items c.args.items.now c.loop-item.item-index
    c.in_ok-item.item c.item-item.result c.loop-item-test.true c.item-item.is
    c.in_ok-item.ensures.equal c.loop-item.invariant)

pub copy_items-returns-clause-equal : goal.copy_items-returns-clause-equal
copy_items-returns-clause-equal t c =
    copied_views c.loop-item.copies.items c.args.items.now c.loop-item.item-index
    c.loop-item-test.false c.loop-item.invariant

pub copy_pairs-loop-pair-preserved : goal.copy_pairs-loop-pair-preserved
copy_pairs-loop-pair-preserved t c =
    let same : both_views (c.in_ok-key.key, c.in_ok-value.value) ≡ both_views c.pair-item.result =
    λ i. (c.in_ok-key.ensures.equal i, c.in_ok-value.ensures.equal i) in
    rw c.in_ok-push.ensures.items
    (copied_more both_views c.loop-pair.copies.items c.args.pairs.now c.loop-pair.pair-index
    (c.in_ok-key.key, c.in_ok-value.value) c.pair-item.result c.loop-pair-test.true
    c.pair-item.is same c.loop-pair.invariant)

pub copy_pairs-returns-clause-equal : goal.copy_pairs-returns-clause-equal
copy_pairs-returns-clause-equal t c =
    copied_pairs c.loop-pair.copies.items c.args.pairs.now c.loop-pair.pair-index
    c.loop-pair-test.false c.loop-pair.invariant
