use Rattle.std.proofs.Common.{sym, ap, ◌∙◌}
use Rattle.std.specs.Option.{option_map}
use Rattle.cbor_model.specs.FiniteMap.{last_pair}
use Rattle.cbor_value.specs.declared.Value.{Value}
use Rattle.cbor_value.specs.View.{view, pair_views}
use Rattle.cbor_value.proofs.Views.{map_view_is}
use Rattle.cbor_value.proofs.Maps.{last_pair-views}
use Rattle.cbor_value.proofs.Map.last_key_value.Goals as goal

pub returns-in-Some : goal.returns-in-Some
returns-in-Some c =
    ap (option_map (λ (p : Value × Value). (view p.0, view p.1))) c.in-Some.ensures.value
    ∙ sym (last_pair-views c.deref.result.now)
    ∙ ap last_pair (ap pair_views c.deref.ensures.value ∙ sym (map_view_is c.args.self.now))

pub returns-in-None : goal.returns-in-None
returns-in-None c =
    ap (option_map (λ (p : Value × Value). (view p.0, view p.1))) c.in-None.ensures.value
    ∙ sym (last_pair-views c.deref.result.now)
    ∙ ap last_pair (ap pair_views c.deref.ensures.value ∙ sym (map_view_is c.args.self.now))
