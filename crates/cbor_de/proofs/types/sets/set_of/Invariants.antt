use Rattle.std.proofs.Common.{◌≡◌, []}
use Rattle.cbor_de.specs.Sets.{put_items}
use Rattle.cbor_de.proofs.types.sets.set_of.Given as goal

-- what is left makes of the keys what all the items make of none
abbrev pub invariant-loop-item : goal.invariant-loop-item
invariant-loop-item g l = put_items g.T.Ord.cmp l.set.keys l.item-iterator.rest.items ≡ put_items g.T.Ord.cmp [] l.fn.items.items
