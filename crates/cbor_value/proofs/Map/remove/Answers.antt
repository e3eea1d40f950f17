use Rattle.std.proofs.Common.{◌∙◌, sym, ap}
use Rattle.cbor_model.specs.FiniteMap.{without}
use Rattle.cbor_value.specs.View.{view, map_view}
use Rattle.cbor_value.proofs.Views.{map_view_is}
use Rattle.cbor_value.proofs.Maps.{map_view-roll, get-StandsAt, get-BelongsAt, without-StandsAt}
use Rattle.cbor_value.proofs.Maps.{without-BelongsAt, removed, removed-ascending, removed-ordered}
use Rattle.cbor_value.proofs.Map.remove.Goals as goal

-- ---- the key is there

pub returns-in-Ok-clause-before : goal.returns-in-Ok-clause-before
returns-in-Ok-clause-before c =
    let m = c.args.self.now in
    λ ascend.
    let stands = rw (map_view_is m) at (c.in-Ok.ensures.found ascend) in
    rw (map_view_is m) (get-StandsAt
    (view c.args.key.now) c.in-Ok.i m.pairs.items c.remove-value.result
    c.remove-value.ensures.value stands)

pub returns-in-Ok-clause-listed : goal.returns-in-Ok-clause-listed
returns-in-Ok-clause-listed c =
    let m = c.args.self.now in
    λ ascend.
    let stands = rw (map_view_is m) at (c.in-Ok.ensures.found ascend) in
    map_view-roll _ ∙ rw c.remove-value.ensures.items
    (without-StandsAt _ c.in-Ok.i m.pairs.items stands) ∙ ap (without _) (sym (map_view_is m))

pub returns-in-Ok-clause-removed : goal.returns-in-Ok-clause-removed
returns-in-Ok-clause-removed c = removed _ _ _ (returns-in-Ok-clause-listed c)

pub returns-in-Ok-clause-ascending : goal.returns-in-Ok-clause-ascending
returns-in-Ok-clause-ascending c = removed-ascending _ _ _ (returns-in-Ok-clause-listed c)

pub returns-in-Ok-clause-ordered : goal.returns-in-Ok-clause-ordered
returns-in-Ok-clause-ordered c = removed-ordered _ _ _ (returns-in-Ok-clause-listed c)

-- ---- the key is missing

pub returns-in-Err-clause-before : goal.returns-in-Err-clause-before
returns-in-Err-clause-before c =
    λ ascend. get-BelongsAt _ c.in-Err.field-0 (map_view c.args.self.now)
    (c.in-Err.ensures.found ascend) ascend

pub returns-in-Err-clause-listed : goal.returns-in-Err-clause-listed
returns-in-Err-clause-listed c =
    λ ascend. without-BelongsAt _ c.in-Err.field-0 (map_view c.args.self.now)
    (c.in-Err.ensures.found ascend)

pub returns-in-Err-clause-removed : goal.returns-in-Err-clause-removed
returns-in-Err-clause-removed c = removed _ _ _ (returns-in-Err-clause-listed c)
