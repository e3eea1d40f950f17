use Rattle.std.proofs.Common.{length, ◌-◌, ◌≡◌, ◌≤◌, drop}
use Rattle.cbor_value.proofs.Comparing.{rest_order, rest_pairs}
use Rattle.cbor_value.proofs.order.+order.Given as goal

abbrev pub invariant-cmp_items-items : goal.invariant-cmp_items-items
invariant-cmp_items-items l = record {
  in_range : l.i ≤ length l.a;
  lens : length l.a ≡ length l.b;
  same : rest_order (drop l.i l.a) (drop l.i l.b) ≡ rest_order l.a l.b;
}

abbrev pub decreases-cmp_items-items : goal.decreases-cmp_items-items
decreases-cmp_items-items l = length l.a - l.i

abbrev pub invariant-cmp_pairs-pairs : goal.invariant-cmp_pairs-pairs
invariant-cmp_pairs-pairs l = record {
  in_range : l.i ≤ length l.a;
  lens : length l.a ≡ length l.b;
  same : rest_pairs (drop l.i l.a) (drop l.i l.b) ≡ rest_pairs l.a l.b;
}

abbrev pub decreases-cmp_pairs-pairs : goal.decreases-cmp_pairs-pairs
decreases-cmp_pairs-pairs l = length l.a - l.i
