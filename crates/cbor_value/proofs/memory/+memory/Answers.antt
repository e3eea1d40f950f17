use Rattle.std.proofs.Common.{◌≡◌, ◌∙◌, ◌^◌, ◌<◌, List, length, sym, ap, subst, arith}
use Rattle.cbor_model.specs.Plain as plain
use Rattle.cbor_model.specs.Plain.{count, pair_count}
use Rattle.cbor_model.specs.InMemory.{IsInMemory}
use Rattle.cbor_value.specs.declared.Value.{Value}
use Rattle.cbor_value.specs.View.{view, views, pair_views}
use Rattle.cbor_value.proofs.Views.{count_views, pair_count_pair_views, view_array}
use Rattle.cbor_value.proofs.Comparing.{view-Map}
use Rattle.cbor_value.proofs.memory.+memory.Goals as goal

pub walk-returns-in-Array : goal.walk-returns-in-Array
walk-returns-in-Array t c =
    let items = c.deref-in-Array.result.now in
    let same : view c.args.value.now ≡ plain.array (views items) =
    ap view c.in-Array.is ∙ view_array _
    ∙ ap (λ (vs : List Value). plain.array (views vs)) (sym c.deref-in-Array.ensures.value) in
    let few : length items < 2 ^ 64 = omega arith in
    let counted : count (views items) < 2 ^ 64 = omega (arith, count_views items, few) in
    subst IsInMemory (sym same) (counted, c.walk_items.ensures)

pub walk-returns-in-Map : goal.walk-returns-in-Map
walk-returns-in-Map t c =
    let pairs = c.deref-in-Map.result.now in
    let same : view c.args.value.now ≡ plain.map (pair_views pairs) =
    ap view c.in-Map.is ∙ view-Map _
    ∙ ap (λ (ps : List (Value × Value)). plain.map (pair_views ps)) (sym c.deref-in-Map.ensures.value) in
    let few : length pairs < 2 ^ 64 = omega arith in
    let counted : pair_count (pair_views pairs) < 2 ^ 64 = omega (arith, pair_count_pair_views pairs, few) in
    subst IsInMemory (sym same) (counted, c.walk_pairs.ensures)
