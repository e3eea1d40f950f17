use Rattle.std.proofs.Common.{◌≡◌, ◌∙◌, ℕ, sym, ap, rules, length, eqb}
use Rattle.std.specs.Vec.{vec_len}
use Rattle.cbor_model.specs.Plain.{pair_count}
use Rattle.cbor_value.proofs.Views.{map_view_is, pair_count_pair_views}
use Rattle.cbor_value.proofs.Map.is_empty.Goals as goal

pub returns : goal.returns
returns c =
    let m = c.args.self.now in
    let same : vec_len m.pairs ≡ length m.pairs.items = search rules in
    c.is_empty.ensures ∙ ap (λ (n : ℕ). eqb n 0)
    (same ∙ sym (ap pair_count (map_view_is m) ∙ pair_count_pair_views m.pairs.items))
