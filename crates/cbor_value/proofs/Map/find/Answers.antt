use Rattle.cbor_value.specs.View.{map_view}
use Rattle.cbor_value.proofs.Views.{map_view_is}
use Rattle.cbor_value.proofs.Maps.{get-StandsAt, get-BelongsAt}
use Rattle.cbor_value.proofs.Map.find.Goals as goal

pub returns-in-Ok-clause-found : goal.returns-in-Ok-clause-found
returns-in-Ok-clause-found g c =
    let m = c.args.self.now in
    λ ascend.
    let stands = rw (map_view_is m) at (c.in-Ok.ensures.found ascend) in
    let k = g.K.Key.stands_for c.args.key.now in
    rw (map_view_is m)
    (get-StandsAt k c.in-Ok.i m.pairs.items c.index-pair.result.now c.index-pair.ensures stands)

pub returns-in-Err-clause-found : goal.returns-in-Err-clause-found
returns-in-Err-clause-found g c =
    λ ascend. get-BelongsAt _ c.in-Err.field-0 (map_view c.args.self.now)
    (c.in-Err.ensures.found ascend) ascend
