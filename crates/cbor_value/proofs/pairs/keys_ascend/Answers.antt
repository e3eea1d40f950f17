use Rattle.std.proofs.Common.{rules}
use Rattle.std.proofs.lemmas.List.Sorted.{answers_always}
use Rattle.cbor_value.proofs.Sorting.{key_lt, ascends-is}
use Rattle.cbor_value.proofs.pairs.keys_ascend.Goals as goal

pub returns : goal.returns
returns c =
    let by_order = answers_always _ _ _ (λ f a r f' k. search rules) in
    ascends-is c.args.pairs.now c.is_sorted_by.result (c.is_sorted_by.ensures.cases key_lt by_order)
