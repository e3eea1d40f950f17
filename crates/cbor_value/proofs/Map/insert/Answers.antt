use Rattle.std.proofs.Common.{◌≡◌, ◌∙◌, true, false, sym, ap}
use Rattle.cbor_model.specs.Value.{put}
use Rattle.cbor_value.specs.View.{view, map_view}
use Rattle.cbor_value.proofs.Views.{map_view_is}
use Rattle.cbor_value.proofs.Maps.{map_view-roll, put-BelongsAt, get-BelongsAt, inserted}
use Rattle.cbor_value.proofs.Maps.{inserted-ascending, inserted-ordered}
use Rattle.cbor_value.proofs.Map.insert.Goals as goal

-- ---- the key is there

pub returns-in-Ok-clause-inserted : goal.returns-in-Ok-clause-inserted
returns-in-Ok-clause-inserted c =
    inserted _ _ _ _ (λ ascend. c.replace.ensures.listed _ (c.in-Ok.ensures.found ascend))

pub returns-in-Ok-clause-ascending : goal.returns-in-Ok-clause-ascending
returns-in-Ok-clause-ascending c =
    inserted-ascending (view c.args.key) (view c.args.value) _ _
    (λ ascend. c.replace.ensures.listed _ (c.in-Ok.ensures.found ascend))

pub returns-in-Ok-clause-ordered : goal.returns-in-Ok-clause-ordered
returns-in-Ok-clause-ordered c =
    inserted-ordered (view c.args.key) (view c.args.value) _ _
    (λ ascend. c.replace.ensures.listed _ (c.in-Ok.ensures.found ascend))

-- ---- the key is missing

pub returns-in_ok-insert-in-Err-clause-before : goal.returns-in_ok-insert-in-Err-clause-before
returns-in_ok-insert-in-Err-clause-before c =
    λ ascend. get-BelongsAt _ c.in-Err.i (map_view c.args.self.now)
    (c.in-Err.ensures.found ascend) ascend

pub returns-in_err-insert-in-Err-clause-unrefused : goal.returns-in_err-insert-in-Err-clause-unrefused
returns-in_err-insert-in-Err-clause-unrefused c =
    λ ascend there.
    let missing = get-BelongsAt _ c.in-Err.i (map_view c.args.self.now)
    (c.in-Err.ensures.found ascend) ascend in
    let wrong : false ≡ true = rw (sym missing) at there in
    cc

pub returns-in_ok-insert-in-Err-clause-listed : goal.returns-in_ok-insert-in-Err-clause-listed
returns-in_ok-insert-in-Err-clause-listed c =
    let m = c.args.self.now in
    λ ascend.
    let belongs = rw (map_view_is m) at (c.in-Err.ensures.found ascend) in
    map_view-roll _ ∙ rw c.in_ok-insert-in-Err.ensures.items
    (put-BelongsAt c.args.key c.args.value c.in-Err.i m.pairs.items belongs)
    ∙ ap (put _ _) (sym (map_view_is m))

pub returns-in_ok-insert-in-Err-clause-inserted : goal.returns-in_ok-insert-in-Err-clause-inserted
returns-in_ok-insert-in-Err-clause-inserted c =
    inserted _ _ _ _ (returns-in_ok-insert-in-Err-clause-listed c)

pub returns-in_ok-insert-in-Err-clause-ascending : goal.returns-in_ok-insert-in-Err-clause-ascending
returns-in_ok-insert-in-Err-clause-ascending c =
    inserted-ascending _ _ _ _ (returns-in_ok-insert-in-Err-clause-listed c)

pub returns-in_ok-insert-in-Err-clause-ordered : goal.returns-in_ok-insert-in-Err-clause-ordered
returns-in_ok-insert-in-Err-clause-ordered c =
    inserted-ordered _ _ _ _ (returns-in_ok-insert-in-Err-clause-listed c)
