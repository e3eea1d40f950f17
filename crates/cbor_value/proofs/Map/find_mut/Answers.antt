use Rattle.std.proofs.Common.{refl, sym, ap, ◌∙◌}
use Rattle.std.specs.Vec.{with_item}
use Rattle.cbor_model.specs.Value.{put}
use Rattle.cbor_value.specs.View.{view, map_view}
use Rattle.cbor_value.proofs.Views.{map_view_is}
use Rattle.cbor_value.proofs.Maps.{map_view-roll, put-StandsAt, get-StandsAt, get-BelongsAt}
use Rattle.cbor_value.proofs.Map.find_mut.Goals as goal

pub returns-in-Ok : goal.returns-in-Ok
returns-in-Ok g c =
    let m = c.args.self.now in
    let k = g.K.Key.stands_for c.args.key.now in
    let p = c.index_mut-pair.result.now in
    let is = c.index_mut-pair.ensures.value in (
      (
        refl,
        λ w ascend.
            let stands = rw (map_view_is m) at (c.in-Ok.ensures.found ascend) in
            map_view-roll (with_item m.pairs c.in-Ok.i (p.0, w))
            ∙ put-StandsAt k w c.in-Ok.i m.pairs.items p is stands
            ∙ ap (put k (view w)) (sym (map_view_is m)),
        refl,
      ),
      record {
        writes_back = tt;
        found = λ ascend.
            let stands = rw (map_view_is m) at (c.in-Ok.ensures.found ascend) in
            rw (map_view_is m) (get-StandsAt k c.in-Ok.i m.pairs.items p is stands);
      },
    )

pub returns-in-Err : goal.returns-in-Err
returns-in-Err g c = (
  (refl, λ w ascend. tt, refl),
  record {
    writes_back = tt;
    found = λ ascend. get-BelongsAt _ c.in-Err.field-0 (map_view c.args.self.now)
        (c.in-Err.ensures.found ascend) ascend;
  },
)
