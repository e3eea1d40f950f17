use Rattle.std.proofs.Common.{arith}
use Rattle.serde_cbor.specs.View.{map_view}
use Rattle.use_signed_record.proofs.Parts.{four_items, found}
use Rattle.use_signed_record.proofs.record.parts_of.Goals as goal
use Rattle.use_signed_record.proofs.record.parts_of.Goals.{in_default-2-via-then-branch-lt4, in_default-2-via-else-branch-lt4+else-this-lt5}

pub returns-in_default-2 : goal.returns-in_default-2
returns-in_default-2 c h u p s is =
    let len = four_items _ _ _ c.in_ok-as_array.field-0.now c.in_ok-items.ensures c.in_ok-as_array.ensures h u p s is in
    elim c.in_default-2.branch [ in_default-2-via-then-branch-lt4 w ↦ grind arith | in_default-2-via-else-branch-lt4+else-this-lt5 w ↦ grind arith ]

pub returns : goal.returns
returns c = (
  map_view c.in_ok-as_map.field-0.now,
  found _ _ _ c.in_ok-as_array.field-0.now c.in_ok-items.ensures c.in_ok-as_array.ensures _ _ _ _ _ _ _ _
      c.in_ok-as_bytes.ensures c.in_ok-as_map.ensures c.in_ok-as_bytes-2.ensures c.in_ok-as_bytes-3.ensures
      (omega arith) (omega arith) c.protected-item.is c.unprotected-item.is c.payload-item.is c.signature-item.is,
)
