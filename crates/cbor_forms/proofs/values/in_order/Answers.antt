use Rattle.std.proofs.Common.{◌≡◌, ◌∙◌, sym, ap, rules, length, vec_len}
use Rattle.cbor_model.specs.Plain.{pair_count}
use Rattle.cbor_value.specs.View.{pair_views}
use Rattle.cbor_forms.proofs.DistinctKeys.{all_stay, are_distinct, count_pair_views}
use Rattle.cbor_forms.proofs.Shortening.{refused_for}
use Rattle.cbor_forms.proofs.values.in_order.Goals as goal

pub returns-then-len-count-clause-refused : goal.returns-then-len-count-clause-refused
returns-then-len-count-clause-refused c =
    let ps = pair_views c.args.pairs.items in
    let same : vec_len c.args.pairs ≡ length c.args.pairs.items = search rules in
    refused_for c.args.form c.equal_keys.result _
    (λ distinct. c.if-len-count.true
    (c.len.ensures.listed ∙ ap pair_count c.in_ok-map.ensures.listed ∙ all_stay ps distinct
    ∙ count_pair_views c.args.pairs.items ∙ sym same ∙ sym c.len-count.ensures))
    c.equal_keys.ensures

pub returns-clause-distinct : goal.returns-clause-distinct
returns-clause-distinct c =
    let same : vec_len c.args.pairs ≡ length c.args.pairs.items = search rules in
    are_distinct (pair_views c.args.pairs.items)
    (ap pair_count (sym c.in_ok-map.ensures.listed) ∙ sym c.len.ensures.listed
    ∙ c.if-len-count.false ∙ c.len-count.ensures ∙ same
    ∙ sym (count_pair_views c.args.pairs.items))
