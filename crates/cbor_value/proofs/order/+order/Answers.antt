use Rattle.std.proofs.Common.{◌≡◌, ◌+◌, length, drop, Ordering, Equal, nat_cmp, List, sym, ap, ◌∙◌}
use Rattle.std.proofs.Common.{arith}
use Rattle.std.specs.Ordering.{ordering_then}
use Rattle.cbor_model.specs.Plain as plain
use Rattle.cbor_model.specs.Order.{flat}
use Rattle.cbor_value.specs.declared.Value.{Value}
use Rattle.cbor_value.specs.View.{view, pair_views}
use Rattle.cbor_value.proofs.Comparing.{stays, rest_order, turn, ended, bodies, bodies_differ}
use Rattle.cbor_value.proofs.Comparing.{rest_pairs, pair_turn, pairs_ended, pair_bodies}
use Rattle.cbor_value.proofs.Comparing.{pair_bodies_differ, view-Map, key_decides, value_decides}
use Rattle.cbor_value.proofs.Comparing.{both_tied}
use Rattle.cbor_value.proofs.order.+order.Goals as goal

pub cmp_items-returns-in_default : goal.cmp_items-returns-in_default
cmp_items-returns-in_default t c =
    bodies_differ c.args.a.now c.args.b.now c.cmp.result c.cmp.ensures c.in_default.not-Equal

pub cmp_items-returns-in_default-cmp_values : goal.cmp_items-returns-in_default-cmp_values
cmp_items-returns-in_default-cmp_values t c =
    let a = c.args.a.now in
    let b = c.args.b.now in
    let i = c.items.i in
    let lens : nat_cmp (length a) (length b) ≡ Equal = sym c.cmp.ensures ∙ c.in-Equal.is in
    let v = c.index-a-i.result in
    let w = c.index-b-i.result in
    let r = rest_order (drop (i + 1) a) (drop (i + 1) b) in
    stays c.cmp_values.result r c.in_default-cmp_values.not-Equal
    ∙ ap (λ (o : Ordering). ordering_then o r) c.cmp_values.ensures
    ∙ sym (turn a b i v w c.items-test.true c.items.invariant.lens c.index-a-i.is c.index-b-i.is)
    ∙ c.items.invariant.same ∙ sym (bodies a b lens)

pub cmp_items-items-preserved : goal.cmp_items-items-preserved
cmp_items-items-preserved t c =
    let a = c.args.a.now in
    let b = c.args.b.now in
    let i = c.items.i in
    let v = c.index-a-i.result in
    let w = c.index-b-i.result in
    let r = rest_order (drop (i + 1) a) (drop (i + 1) b) in
    record {
      in_range = omega arith;
      lens = c.items.invariant.lens;
      same = ap (λ (o : Ordering). ordering_then o r)
          (sym c.in-Equal-cmp_values.is ∙ c.cmp_values.ensures)
          ∙ sym (turn a b i v w c.items-test.true c.items.invariant.lens c.index-a-i.is
          c.index-b-i.is) ∙ c.items.invariant.same;
    }

pub cmp_items-returns : goal.cmp_items-returns
cmp_items-returns t c =
    let a = c.args.a.now in
    let b = c.args.b.now in
    let lens : nat_cmp (length a) (length b) ≡ Equal = sym c.cmp.ensures ∙ c.in-Equal.is in
    sym (ended a b c.items.i c.items-test.false c.items.invariant.lens) ∙ c.items.invariant.same
    ∙ sym (bodies a b lens)

pub cmp_values-returns-in-Map-Map : goal.cmp_values-returns-in-Map-Map
unfolding flat
cmp_values-returns-in-Map-Map t c =
    let x : view c.args.a.now ≡ plain.map (pair_views c.deref-in-Map-Map.result.now) =
    ap view c.in-Map-Map.is-0 ∙ view-Map _
    ∙ ap (λ (ps : List (Value × Value)). plain.map (pair_views ps))
    (sym c.deref-in-Map-Map.ensures.value) in
    let y : view c.args.b.now ≡ plain.map (pair_views c.deref-in-Map-Map-2.result.now) =
    ap view c.in-Map-Map.is-1 ∙ view-Map _
    ∙ ap (λ (ps : List (Value × Value)). plain.map (pair_views ps))
    (sym c.deref-in-Map-Map-2.ensures.value) in
    rw (x, y) c.cmp_pairs.ensures

pub cmp_pairs-returns-in_default : goal.cmp_pairs-returns-in_default
cmp_pairs-returns-in_default t c =
    pair_bodies_differ c.args.a.now c.args.b.now c.cmp.result c.cmp.ensures c.in_default.not-Equal

pub cmp_pairs-returns-in_default-cmp_values : goal.cmp_pairs-returns-in_default-cmp_values
cmp_pairs-returns-in_default-cmp_values t c =
    let a = c.args.a.now in
    let b = c.args.b.now in
    let i = c.pairs.i in
    let v = c.index-a-i.result in
    let w = c.index-b-i.result in
    let r = rest_pairs (drop (i + 1) a) (drop (i + 1) b) in
    let lens : nat_cmp (length a) (length b) ≡ Equal = sym c.cmp.ensures ∙ c.in-Equal.is in
    key_decides c.cmp_values.result v w r c.in_default-cmp_values.not-Equal c.cmp_values.ensures
    ∙ sym (pair_turn a b i v w c.pairs-test.true c.pairs.invariant.lens c.index-a-i.is
    c.index-b-i.is) ∙ c.pairs.invariant.same ∙ sym (pair_bodies a b lens)

pub cmp_pairs-returns-in_default-cmp_values-2 : goal.cmp_pairs-returns-in_default-cmp_values-2
cmp_pairs-returns-in_default-cmp_values-2 t c =
    let a = c.args.a.now in
    let b = c.args.b.now in
    let i = c.pairs.i in
    let v = c.index-a-i.result in
    let w = c.index-b-i.result in
    let r = rest_pairs (drop (i + 1) a) (drop (i + 1) b) in
    let lens : nat_cmp (length a) (length b) ≡ Equal = sym c.cmp.ensures ∙ c.in-Equal.is in
    value_decides c.cmp_values-in-pairs.result v w r
    (sym c.in-Equal-cmp_values.is
    ∙ c.cmp_values.ensures) c.in_default-cmp_values-2.not-Equal c.cmp_values-in-pairs.ensures
    ∙ sym (pair_turn a b i v w c.pairs-test.true c.pairs.invariant.lens c.index-a-i.is
    c.index-b-i.is) ∙ c.pairs.invariant.same ∙ sym (pair_bodies a b lens)

pub cmp_pairs-pairs-preserved : goal.cmp_pairs-pairs-preserved
cmp_pairs-pairs-preserved t c =
    let a = c.args.a.now in
    let b = c.args.b.now in
    let i = c.pairs.i in
    let v = c.index-a-i.result in
    let w = c.index-b-i.result in
    let r = rest_pairs (drop (i + 1) a) (drop (i + 1) b) in
    record {
      in_range = omega arith;
      lens = c.pairs.invariant.lens;
      same = both_tied v w r (sym c.in-Equal-cmp_values.is ∙ c.cmp_values.ensures)
          (sym c.in-Equal-cmp_values-2.is ∙ c.cmp_values-in-pairs.ensures)
          ∙ sym (pair_turn a b i v w c.pairs-test.true c.pairs.invariant.lens c.index-a-i.is
          c.index-b-i.is) ∙ c.pairs.invariant.same;
    }

pub cmp_pairs-returns : goal.cmp_pairs-returns
cmp_pairs-returns t c =
    let a = c.args.a.now in
    let b = c.args.b.now in
    let lens : nat_cmp (length a) (length b) ≡ Equal = sym c.cmp.ensures ∙ c.in-Equal.is in
    sym (pairs_ended a b c.pairs.i c.pairs-test.false c.pairs.invariant.lens)
    ∙ c.pairs.invariant.same ∙ sym (pair_bodies a b lens)
