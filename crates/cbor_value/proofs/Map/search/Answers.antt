use Rattle.std.proofs.Common.{◌≡◌, ◌<◌, ◌+◌, ◌-◌, ◌/◌, ◌^◌, ◌∙◌, length, sym, ap, add-one, rules}
use Rattle.std.proofs.Common.{arith}
use Rattle.cbor_value.specs.Search.{binary_digits}
use Rattle.cbor_value.specs.View.{view}
use Rattle.cbor_value.proofs.Views.{map_view_is, pair_count_map_view}
use Rattle.cbor_value.proofs.Maps.{Passed-suc, Passed-ascending, Reaches-Equal, Reaches-Greater}
use Rattle.cbor_value.proofs.Maps.{IsBelow-drop, StandsAt-passed, BelongsAt-between}
use Rattle.cbor_value.proofs.Maps.{binary_digits-half, binary_digits-fit}
use Rattle.cbor_value.proofs.Map.search.Goals as goal

pub compare-requires : goal.compare-requires
compare-requires g c =
    let n = length c.args.self.now.pairs.items in
    let fits : n < 2 ^ 64 = search rules in
    omega (arith, c.halves.invariant.few, binary_digits-fit n fits)

pub halves-preserved-in-Less : goal.halves-preserved-in-Less
halves-preserved-in-Less g c =
    let m = c.args.self.now in
    let k = g.K.Key.stands_for c.args.key.now in
    let p = c.index-pair.result.now in
    let left = c.halves.end - c.halves.start in
    let middle = c.halves.start + left / 2 in
    let lt : middle < length m.pairs.items = omega arith in
    record {
      ordered = omega arith;
      in_range = omega arith;
      above = c.halves.invariant.above;
      below = λ ascend. IsBelow-drop k middle m.pairs.items p lt c.index-pair.ensures
          (sym c.in-Less.is ∙ c.compare.ensures.order);
      few = omega (
        arith,
        c.compare.ensures.counted,
        binary_digits-half (middle - c.halves.start) left (omega arith) (omega arith),
      );
      some = λ none. absurd (omega (arith, c.compare.ensures.counted));
    }

pub halves-preserved : goal.halves-preserved
halves-preserved g c =
    let m = c.args.self.now in
    let k = g.K.Key.stands_for c.args.key.now in
    let p = c.index-pair.result.now in
    let left = c.halves.end - c.halves.start in
    let middle = c.halves.start + left / 2 in
    let lt : middle < length m.pairs.items = omega arith in
    let order = sym c.in-Greater.is ∙ c.compare.ensures.order in
    record {
      ordered = omega arith;
      in_range = omega arith;
      above = λ ascend.
          let here = rw (map_view_is m) at ascend in
          rw (add-one, map_view_is m)
          (Passed-suc k middle m.pairs.items p lt c.index-pair.ensures order
          (Passed-ascending k middle m.pairs.items p lt c.index-pair.ensures
          (Reaches-Greater k (view p.0) order) here));
      below = c.halves.invariant.below;
      few = omega (
        arith,
        c.compare.ensures.counted,
        binary_digits-half (c.halves.end - (middle + 1)) left (omega arith) (omega arith),
      );
      some = λ none. absurd (omega (arith, c.compare.ensures.counted));
    }

pub returns-in-Equal-clause-found : goal.returns-in-Equal-clause-found
returns-in-Equal-clause-found g c =
    let m = c.args.self.now in
    let k = g.K.Key.stands_for c.args.key.now in
    let p = c.index-pair.result.now in
    let middle = c.halves.start + (c.halves.end - c.halves.start) / 2 in
    let lt : middle < length m.pairs.items = omega arith in
    let order = sym c.in-Equal.is ∙ c.compare.ensures.order in
    λ ascend.
    let here = rw (map_view_is m) at ascend in
    rw (map_view_is m) (StandsAt-passed k middle m.pairs.items p lt c.index-pair.ensures order
    (Passed-ascending k middle m.pairs.items p lt c.index-pair.ensures
    (Reaches-Equal k (view p.0) order) here))

pub returns-in-Equal-clause-few : goal.returns-in-Equal-clause-few
returns-in-Equal-clause-few g c =
    let left = c.halves.end - c.halves.start in
    omega (
      arith,
      c.compare.ensures.counted,
      c.halves.invariant.few,
      binary_digits-half 0 left (omega arith) (omega arith),
      ap binary_digits (pair_count_map_view c.args.self.now),
    )

pub returns-clause-few : goal.returns-clause-few
returns-clause-few g c =
    omega (arith, c.halves.invariant.few, ap binary_digits (pair_count_map_view c.args.self.now))

pub returns-clause-some : goal.returns-clause-some
returns-clause-some g c =
    λ none. omega (arith, c.halves.invariant.some none, pair_count_map_view c.args.self.now)

pub returns-clause-found : goal.returns-clause-found
returns-clause-found g c =
    let m = c.args.self.now in
    λ ascend.
    let passed = rw (map_view_is m) at (c.halves.invariant.above ascend) in
    let met : c.halves.end ≡ c.halves.start = omega arith in
    let below = rw met at (c.halves.invariant.below ascend) in
    rw (map_view_is m) (BelongsAt-between
    (g.K.Key.stands_for c.args.key.now) c.halves.start m.pairs.items passed below)
