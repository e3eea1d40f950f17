use Rattle.std.proofs.Common.{◌≡◌, ◌∙◌, sym, ap, rules, length}
use Rattle.cbor_model.specs.Plain.{pair_count}
use Rattle.cbor_model.proofs.facts.Maps.{len-finite_map}
use Rattle.cbor_value.specs.View.{map_view}
use Rattle.cbor_value.proofs.Views.{map_view_is, pair_count_pair_views}
use Rattle.cbor_value.proofs.Map.len.Goals as goal

pub returns-clause-listed : goal.returns-clause-listed
returns-clause-listed c =
    let m = c.args.self.now in
    let same : c.len.result ≡ length m.pairs.items = search rules in
    same ∙ sym (ap pair_count (map_view_is m) ∙ pair_count_pair_views m.pairs.items)

pub returns-clause-counted : goal.returns-clause-counted
returns-clause-counted c = λ ascend. returns-clause-listed c
    ∙ sym (len-finite_map (map_view c.args.self.now) ascend)
