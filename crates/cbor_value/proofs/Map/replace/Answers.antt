use Rattle.std.proofs.Common.{refl, ◌∙◌}
use Rattle.cbor_value.proofs.Views.{map_view_is}
use Rattle.cbor_value.proofs.Maps.{map_view-roll, put-StandsAt, get-StandsAt}
use Rattle.cbor_value.proofs.Map.replace.Goals as goal

pub returns-clause-before : goal.returns-clause-before
returns-clause-before c =
    let m = c.args.self.now in
    λ k stands.
    let at = rw (map_view_is m) at stands in
    rw (c.replace.ensures.value, map_view_is m)
    (get-StandsAt k c.args.i m.pairs.items c.index_mut-pair.result.now
    c.index_mut-pair.ensures.value at)

pub returns-clause-listed : goal.returns-clause-listed
returns-clause-listed c =
    let m = c.args.self.now in
    λ k stands.
    let at = rw (map_view_is m) at stands in
    map_view-roll _
    ∙ put-StandsAt k c.replace.new.dest c.args.i m.pairs.items c.index_mut-pair.result.now
    c.index_mut-pair.ensures.value at
    ∙ rw (c.replace.ensures.after, map_view_is m) refl
