use Rattle.std.proofs.Common.{◌<◌, ◌≤◌, ◌/◌, ◌%◌, ◌∙◌, [], length, sym, ap, arith}
use Rattle.cbor_strict.specs.Walk.{walk, departed, passed, all_walk, pairs_walk}
use Rattle.cbor_strict.specs.Walks.{last}
use Rattle.cbor_strict.proofs.walk.+walk.Goals as goal
use Rattle.cbor_strict.proofs.Walking.{length-last, within_rest, on_integer, on_string, on_simple, on_none, on_open, on_long, on_array, on_map, on_tag, on_end, on_first, no_first, one_item, all_step, all_other, all_end, pairs_step, pairs_departs, pairs_other, pairs_value_other, pairs_end, rest_last, next_rest, key_of, key_at}

pub content-returns-then-major-le1-clause-walks : goal.content-returns-then-major-le1-clause-walks
content-returns-then-major-le1-clause-walks t c = λ fuel enough.
    let below : c.args.first / 32 < 8 = omega (arith, c.ranges.first.fits) in
    on_integer (walk fuel) (c.args.first / 32) (c.args.first % 32) c.args.bytes.now below (omega (arith, c.if-major-le1.true)) ∙ c.integer.ensures.walks fuel enough

pub content-returns-then-major-le3-clause-walks : goal.content-returns-then-major-le3-clause-walks
content-returns-then-major-le3-clause-walks t c = λ fuel enough.
    let below : c.args.first / 32 < 8 = omega (arith, c.ranges.first.fits) in
    on_string (walk fuel) (c.args.first / 32) (c.args.first % 32) c.args.bytes.now below (omega (arith, c.if-major-le1.false)) (omega (arith, c.if-major-le3.true)) ∙ c.string.ensures.walks fuel enough

pub content-returns-then-first-ge224-clause-walks : goal.content-returns-then-first-ge224-clause-walks
content-returns-then-first-ge224-clause-walks t c = λ fuel enough.
    let below : c.args.first / 32 < 8 = omega (arith, c.ranges.first.fits) in
    on_simple (walk fuel) (c.args.first / 32) (c.args.first % 32) c.args.bytes.now below (omega (arith, c.if-first-ge224.true, below)) ∙ c.simple.ensures.walks fuel enough

pub item-returns-in-Some-clause-walks : goal.item-returns-in-Some-clause-walks
item-returns-in-Some-clause-walks t c = λ fuel enough.
    on_first fuel c.args.bytes.now c.in-Some.first.now c.in-Some.rest.now c.content.result c.in-Some.ensures.cases.0 enough c.content.ensures.walks c.content.ensures.within

pub item-returns-in-None-clause-walks : goal.item-returns-in-None-clause-walks
item-returns-in-None-clause-walks t c = λ fuel enough. no_first fuel c.args.bytes.now c.in-None.ensures.cases

pub items-returns-in_default : goal.items-returns-in_default
items-returns-in_default t c = record {
  walks = λ fuel enough.
      let few : length c.loop-i.rest.now ≤ fuel = omega (arith, enough, c.loop-i.invariant.within) in
      c.loop-i.invariant.so_far fuel enough ∙ all_other (walk fuel) c.args.n c.loop-i._i c.loop-i-test.true c.loop-i.rest.now c.args.bytes.now c.item.result (c.item.ensures.walks fuel few) c.in_default.not-Passed;
  within = within_rest c.loop-i.rest.now c.args.bytes.now c.item.result c.loop-i.invariant.within c.item.ensures.within;
}

pub items-loop-i-preserved : goal.items-loop-i-preserved
items-loop-i-preserved t c =
    let rest = c.loop-i.rest.now in
    let i = c.loop-i.invariant in
    let one = c.in-Passed.ensures in
    let next = next_rest c.behind-rest.result.now rest c.args.bytes.now c.in-Passed.left c.behind-rest.ensures one.within i.within i.is_last in
    record {
      within = next.0;
      is_last = next.1;
      so_far = λ fuel enough.
          let few : length rest ≤ fuel = omega (arith, enough, i.within) in
          i.so_far fuel enough ∙ all_step (walk fuel) c.args.n c.loop-i._i c.loop-i-test.true rest c.behind-rest.result.now (one.walks fuel few ∙ ap passed (sym c.behind-rest.ensures));
    }

pub items-returns-clause-walks : goal.items-returns-clause-walks
items-returns-clause-walks t c = λ fuel enough.
    let i = c.loop-i.invariant in
    i.so_far fuel enough ∙ all_end (walk fuel) c.args.n c.loop-i._i c.loop-i.rest.now c.loop-i-test.false ∙ ap passed i.is_last

pub pairs-returns-then-not-ascends-clause-walks : goal.pairs-returns-then-not-ascends-clause-walks
pairs-returns-then-not-ascends-clause-walks t c = λ fuel enough.
    let rest = c.loop-i.rest.now in
    let left = c.in-Passed.left in
    let i = c.loop-i.invariant in
    let one = c.in-Passed.ensures in
    let few : length rest ≤ fuel = omega (arith, enough, i.within) in
    i.so_far fuel enough
    ∙ pairs_departs (walk fuel) c.args.n c.loop-i._i c.loop-i-test.true c.loop-i.before.now rest (last left rest) c.ahead-key.result.now (one.walks fuel few) (key_of c.ahead-key.result.now left rest c.ahead-key.ensures one.within) c.if-not-ascends.ensures
    ∙ ap departed (length-last left rest one.within)

pub pairs-returns-in_default : goal.pairs-returns-in_default
pairs-returns-in_default t c = record {
  walks = λ fuel enough.
      let few : length c.loop-i.rest.now ≤ fuel = omega (arith, enough, c.loop-i.invariant.within) in
      c.loop-i.invariant.so_far fuel enough ∙ pairs_other (walk fuel) c.args.n c.loop-i._i c.loop-i-test.true c.loop-i.before.now c.loop-i.rest.now c.args.bytes.now c.item.result (c.item.ensures.walks fuel few) c.in_default.not-Passed;
  within = within_rest c.loop-i.rest.now c.args.bytes.now c.item.result c.loop-i.invariant.within c.item.ensures.within;
}

pub pairs-returns-in_default-item : goal.pairs-returns-in_default-item
pairs-returns-in_default-item t c =
    let rest = c.loop-i.rest.now in
    let left = c.in-Passed.left in
    let i = c.loop-i.invariant in
    let one = c.in-Passed.ensures in
    let at_value = c.behind-rest.result.now in
    let next = next_rest at_value rest c.args.bytes.now left c.behind-rest.ensures one.within i.within i.is_last in
    record {
      walks = λ fuel enough.
          let few : length rest ≤ fuel = omega (arith, enough, i.within) in
          let few' : length at_value ≤ fuel = omega (arith, enough, next.0) in
          i.so_far fuel enough
          ∙ pairs_value_other (walk fuel) c.args.n c.loop-i._i c.loop-i-test.true c.loop-i.before.now rest at_value c.ahead-key.result.now (one.walks fuel few ∙ ap passed (sym c.behind-rest.ensures)) (key_at c.ahead-key.result.now at_value left rest c.ahead-key.ensures c.behind-rest.ensures one.within) c.if-not-ascends.ensures c.args.bytes.now c.item-in-loop-i.result (c.item-in-loop-i.ensures.walks fuel few') c.in_default-item.not-Passed;
      within = within_rest at_value c.args.bytes.now c.item-in-loop-i.result next.0 c.item-in-loop-i.ensures.within;
    }

pub pairs-loop-i-preserved : goal.pairs-loop-i-preserved
pairs-loop-i-preserved t c =
    let rest = c.loop-i.rest.now in
    let left = c.in-Passed.left in
    let i = c.loop-i.invariant in
    let one = c.in-Passed.ensures in
    let two = c.in-Passed-item.ensures in
    let at_value = c.behind-rest.result.now in
    let more = c.behind-rest-in-Passed-item.result.now in
    let next = next_rest at_value rest c.args.bytes.now left c.behind-rest.ensures one.within i.within i.is_last in
    let next' = next_rest more at_value c.args.bytes.now c.in-Passed-item.left c.behind-rest-in-Passed-item.ensures two.within next.0 next.1 in
    record {
      within = next'.0;
      is_last = next'.1;
      so_far = λ fuel enough.
          let few : length rest ≤ fuel = omega (arith, enough, i.within) in
          let few' : length at_value ≤ fuel = omega (arith, enough, next.0) in
          i.so_far fuel enough
          ∙ pairs_step (walk fuel) c.args.n c.loop-i._i c.loop-i-test.true c.loop-i.before.now rest at_value c.ahead-key.result.now (one.walks fuel few ∙ ap passed (sym c.behind-rest.ensures)) (key_at c.ahead-key.result.now at_value left rest c.ahead-key.ensures c.behind-rest.ensures one.within) c.if-not-ascends.ensures more (two.walks fuel few' ∙ ap passed (sym c.behind-rest-in-Passed-item.ensures));
    }

pub pairs-returns-clause-walks : goal.pairs-returns-clause-walks
pairs-returns-clause-walks t c = λ fuel enough.
    let i = c.loop-i.invariant in
    i.so_far fuel enough ∙ pairs_end (walk fuel) c.args.n c.loop-i._i c.loop-i.before.now c.loop-i.rest.now c.loop-i-test.false ∙ ap passed i.is_last

-- ---- what follows a first byte of an array, a map or a tag

pub nested-returns-then-major-eq6-clause-walks : goal.nested-returns-then-major-eq6-clause-walks
nested-returns-then-major-eq6-clause-walks t c = λ fuel enough.
    let below : c.args.major < 8 = omega (arith, c.requires) in
    on_none (walk fuel) c.args.major c.args.low c.args.bytes.now below c.if-low-eq31.true c.if-major-eq6.true

pub nested-returns-then-low-eq31-clause-walks : goal.nested-returns-then-low-eq31-clause-walks
nested-returns-then-low-eq31-clause-walks t c = λ fuel enough.
    let below : c.args.major < 8 = omega (arith, c.requires) in
    let small : c.args.major < 6 = omega (arith, c.requires, c.if-major-eq6.false) in
    on_open (walk fuel) c.args.major c.args.low c.args.bytes.now below c.if-low-eq31.true (omega (arith, c.requires)) small

pub nested-is_long-requires : goal.nested-is_long-requires
nested-is_long-requires t c = let number = c.in-Some.ensures in number.0

pub nested-returns-then-is_long-clause-walks : goal.nested-returns-then-is_long-clause-walks
nested-returns-then-is_long-clause-walks t c = λ fuel enough.
    let below : c.args.major < 8 = omega (arith, c.requires) in
    let number = c.in-Some.ensures in
    let bs = c.args.bytes.now in
    let left = c.in-Some.left in
    on_long (walk fuel) c.args.major c.args.low bs below c.in-Some.n (last left bs) c.if-low-eq31.false number.1 (sym c.if-is_long.ensures) (omega (arith, c.requires))
    ∙ ap departed (length-last left bs number.2)

pub nested-returns-in-None-clause-walks : goal.nested-returns-in-None-clause-walks
nested-returns-in-None-clause-walks t c = λ fuel enough.
    let below : c.args.major < 8 = omega (arith, c.requires) in
    on_end (walk fuel) c.args.major c.args.low c.args.bytes.now below c.if-low-eq31.false c.in-None.ensures (omega (arith, c.requires))

pub nested-returns-then-n-eq1-clause-walks : goal.nested-returns-then-n-eq1-clause-walks
nested-returns-then-n-eq1-clause-walks t c = λ fuel enough.
    let below : c.args.major < 8 = omega (arith, c.requires) in
    let number = c.in-Some.ensures in
    let bs = c.args.bytes.now in
    let left = c.in-Some.left in
    on_array (walk fuel) c.args.major c.args.low bs below c.in-Some.n (last left bs) c.if-low-eq31.false number.1 (sym c.if-is_long.ensures) c.if-major-eq4.true
    ∙ one_item (walk fuel) c.in-Some.n (last left bs) c.if-n-eq1.true
    ∙ rest_last c.behind-rest.result.now left bs c.item.result (walk fuel) fuel c.behind-rest.ensures number.2 enough (c.item.ensures.walks fuel) c.item.ensures.within

pub nested-returns-else-n-eq1-clause-walks : goal.nested-returns-else-n-eq1-clause-walks
nested-returns-else-n-eq1-clause-walks t c = λ fuel enough.
    let below : c.args.major < 8 = omega (arith, c.requires) in
    let number = c.in-Some.ensures in
    let bs = c.args.bytes.now in
    let left = c.in-Some.left in
    on_array (walk fuel) c.args.major c.args.low bs below c.in-Some.n (last left bs) c.if-low-eq31.false number.1 (sym c.if-is_long.ensures) c.if-major-eq4.true
    ∙ rest_last c.behind-rest.result.now left bs c.items.result (all_walk (walk fuel) c.in-Some.n) fuel c.behind-rest.ensures number.2 enough (c.items.ensures.walks fuel) c.items.ensures.within

pub nested-returns-then-major-eq5-clause-walks : goal.nested-returns-then-major-eq5-clause-walks
nested-returns-then-major-eq5-clause-walks t c = λ fuel enough.
    let below : c.args.major < 8 = omega (arith, c.requires) in
    let number = c.in-Some.ensures in
    let bs = c.args.bytes.now in
    let left = c.in-Some.left in
    on_map (walk fuel) c.args.major c.args.low bs below c.in-Some.n (last left bs) c.if-low-eq31.false number.1 (sym c.if-is_long.ensures) c.if-major-eq5.true
    ∙ rest_last c.behind-rest.result.now left bs c.pairs.result (pairs_walk (walk fuel) c.in-Some.n []) fuel c.behind-rest.ensures number.2 enough (c.pairs.ensures.walks fuel) c.pairs.ensures.within

pub nested-returns-else-major-eq5-clause-walks : goal.nested-returns-else-major-eq5-clause-walks
nested-returns-else-major-eq5-clause-walks t c = λ fuel enough.
    let below : c.args.major < 8 = omega (arith, c.requires) in
    let number = c.in-Some.ensures in
    let bs = c.args.bytes.now in
    let left = c.in-Some.left in
    on_tag (walk fuel) c.args.major c.args.low bs below c.in-Some.n (last left bs) c.if-low-eq31.false number.1 (sym c.if-is_long.ensures) (omega (arith, c.requires, c.if-major-eq4.false, c.if-major-eq5.false))
    ∙ rest_last c.behind-rest.result.now left bs c.item-else-major-eq5.result (walk fuel) fuel c.behind-rest.ensures number.2 enough (c.item-else-major-eq5.ensures.walks fuel) c.item-else-major-eq5.ensures.within
