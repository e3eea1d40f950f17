use Rattle.cbor_value.proofs.Views.{view_array}
use Rattle.cbor_value.proofs.Lookups.{item_at-views, IsOrdered-found, IsOrdered-item_at}
use Rattle.cbor_value.proofs.Value.get_index.Goals as goal

pub returns-in-Array-clause-found : goal.returns-in-Array-clause-found
returns-in-Array-clause-found c =
    rw (c.in-Array.is, view_array c.in-Array.items, ← c.deref.ensures.value)
    (item_at-views c.deref.result.now c.args.position c.get.result c.get.ensures.lookup)

pub returns-in-Array-clause-ordered : goal.returns-in-Array-clause-ordered
returns-in-Array-clause-ordered c =
    λ ordered.
    let here = rw (c.in-Array.is, view_array c.in-Array.items) at ordered in
    IsOrdered-found c.get.result _
    (item_at-views c.deref.result.now c.args.position c.get.result c.get.ensures.lookup)
    (rw c.deref.ensures.value (IsOrdered-item_at c.args.position _ here))
