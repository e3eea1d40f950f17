use Rattle.cbor_model.proofs.facts.Maps.{KeysAscend-from_IsOrdered}
use Rattle.cbor_value.specs.View.{map_view}
use Rattle.cbor_value.proofs.Views.{view_map}
use Rattle.cbor_value.proofs.Lookups.{IsOrdered-found, IsOrdered-get}
use Rattle.cbor_value.proofs.Value.value_of.Goals as goal

pub returns-in-Map-clause-found : goal.returns-in-Map-clause-found
returns-in-Map-clause-found g c =
    λ ordered.
    let here = rw (c.in-Map.is, view_map c.in-Map.map) at ordered in
    rw (c.in-Map.is, view_map c.in-Map.map)
    (c.find.ensures.found (KeysAscend-from_IsOrdered (map_view c.in-Map.map) here))

pub returns-in-Map-clause-ordered : goal.returns-in-Map-clause-ordered
returns-in-Map-clause-ordered g c =
    λ ordered.
    let here = rw (c.in-Map.is, view_map c.in-Map.map) at ordered in
    IsOrdered-found c.find.result.0 _
    (c.find.ensures.found (KeysAscend-from_IsOrdered (map_view c.in-Map.map) here))
    (IsOrdered-get (g.K.Key.stands_for c.args.key.now) (map_view c.in-Map.map) here)
