use Rattle.cbor_forms.proofs.Shortening.{all_listed, all_pairs_listed, allows_at, pair_allows_at}
use Rattle.cbor_forms.proofs.Shortening.{refused_at}
use Rattle.cbor_forms.proofs.values.+rewrite.Goals as goal

pub rewrite_items-returns-in_err-item-clause-refused : goal.rewrite_items-returns-in_err-item-clause-refused
rewrite_items-returns-in_err-item-clause-refused t c =
    refused_at c.args.form c.from_residual.result _ _ _
    (allows_at c.args.form c.args.items.now c.loop-item.item-index c.item-item.result
    c.loop-item-test.true c.item-item.is)
    c.from_residual.ensures.1 c.in_err-item.ensures.refused

pub rewrite_items-returns-clause-rewritten : goal.rewrite_items-returns-clause-rewritten
rewrite_items-returns-clause-rewritten t c =
    all_listed c.args.form c.loop-item.others.items c.args.items.now c.loop-item.item-index
    c.loop-item-test.false c.loop-item.invariant.rewritten

pub rewrite_pairs-returns-in_err-pair-clause-refused : goal.rewrite_pairs-returns-in_err-pair-clause-refused
rewrite_pairs-returns-in_err-pair-clause-refused t c =
    refused_at c.args.form c.from_residual.result _ _ _
    (pair_allows_at c.args.form c.args.pairs.now c.loop-pair.pair-index c.pair-item.result
    c.loop-pair-test.true c.pair-item.is)
    c.from_residual.ensures.1 c.in_err-pair.ensures.refused

pub rewrite_pairs-returns-clause-rewritten : goal.rewrite_pairs-returns-clause-rewritten
rewrite_pairs-returns-clause-rewritten t c =
    all_pairs_listed c.args.form c.loop-pair.others.items c.args.pairs.now c.loop-pair.pair-index
    c.loop-pair-test.false c.loop-pair.invariant.rewritten
