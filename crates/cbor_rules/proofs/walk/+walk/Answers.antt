use Rattle.std.proofs.Common.{[], ◌∷◌, ◌≡◌, ◌≤◌, ◌-◌, ◌/◌, ◌%◌, ◌∙◌, length, drop, sym, refl, inl, inr, true, false, ap, arith}
use Rattle.cbor_rules.specs.Rules.{under}
use Rattle.cbor_rules.specs.Walk.{any_key, departure_from, walk, all_walk, open_walk, pairs_walk, head_walk, inside_walk, indefinite_walk, content_walk, departed, passed}
use Rattle.cbor_rules.specs.Walks.{last}
use Rattle.cbor_rules.specs.declared.settings.Rule.TheVariants.{DefiniteLengths, MostItems}
use Rattle.cbor_rules.proofs.walk.+walk.Goals as goal
use Rattle.cbor_rules.proofs.Followed.{walk_follows}
use Rattle.cbor_rules.proofs.MetKeys.{ends_never, ends_part, ends_same, ends_first, on_departs, all_departs, all_goes, open_depart, open_goes, pairs_depart, key_met}
use Rattle.cbor_rules.proofs.Walking.{last_all, length-last, within_rest, on_first, no_first, on_simple, on_indefinite, on_head, indefinite_broken, indefinite_kept, indefinite_departs, indefinite_pairs, indefinite_items, indefinite_chunks, item_broken, item_kept, in_integer, in_string, in_array, in_map, in_tag, simple_only, all_step, all_other, all_end, open_break, open_step, open_departs, open_other, open_end, pairs_break, pairs_step, pairs_departs, pairs_other, pairs_value_other, pairs_end, after_break, view_rest, next_rest, key_of, key_at}

-- ---- an item

pub item-returns-in-Some-clause-walks : goal.item-returns-in-Some-clause-walks
item-returns-in-Some-clause-walks t c =
    let sought = departure_from (under c.args.rules.now c.args.tags.now) in
    λ had fuel enough.
    on_first sought fuel c.args.bytes.now c.in-Some.first.now c.in-Some.rest.now c.content.result c.in-Some.ensures.cases.0 enough (c.content.ensures.walks had) c.content.ensures.within

pub item-returns-in-None-clause-walks : goal.item-returns-in-None-clause-walks
item-returns-in-None-clause-walks t c =
    let sought = departure_from (under c.args.rules.now c.args.tags.now) in
    λ had fuel enough.
    no_first sought fuel c.args.bytes.now c.in-None.ensures.cases

pub item-returns-in-Some-clause-memory : goal.item-returns-in-Some-clause-memory
item-returns-in-Some-clause-memory t c =
    ends_first c.args.rules.now c.args.bytes.now c.in-Some.first.now c.in-Some.rest.now c.content.result c.in-Some.ensures.cases.0 c.content.ensures.memory

pub content-returns-then-major-eq7-clause-walks : goal.content-returns-then-major-eq7-clause-walks
content-returns-then-major-eq7-clause-walks t c =
    let sought = departure_from (under c.args.rules.now c.args.tags.now) in
    λ had fuel enough.
    on_simple sought (walk sought fuel) (c.args.first / 32) (c.args.first % 32) c.args.bytes.now c.if-major-eq7.true ∙ simple_only c.args.rules.now c.args.tags.now (c.args.first % 32) c.args.bytes.now ∙ c.simple.ensures.walks had fuel enough

pub content-returns-then-low-eq31-clause-walks : goal.content-returns-then-low-eq31-clause-walks
content-returns-then-low-eq31-clause-walks t c =
    let sought = departure_from (under c.args.rules.now c.args.tags.now) in
    λ had fuel enough.
    on_indefinite sought (walk sought fuel) (c.args.first / 32) (c.args.first % 32) c.args.bytes.now c.if-major-eq7.false c.if-low-eq31.true ∙ c.indefinite.ensures.walks had fuel enough

pub content-returns-else-low-eq31-clause-walks : goal.content-returns-else-low-eq31-clause-walks
content-returns-else-low-eq31-clause-walks t c =
    let sought = departure_from (under c.args.rules.now c.args.tags.now) in
    λ had fuel enough.
    on_head sought (walk sought fuel) (c.args.first / 32) (c.args.first % 32) c.args.bytes.now c.if-major-eq7.false c.if-low-eq31.false ∙ c.head.ensures.walks had fuel enough

pub content-returns-then-major-eq7-clause-memory : goal.content-returns-then-major-eq7-clause-memory
content-returns-then-major-eq7-clause-memory t c =
    ends_never c.args.rules.now c.args.bytes.now (λ fuel. content_walk any_key (walk any_key fuel) (c.args.first / 32) (c.args.first % 32)) c.simple.result c.simple.ensures.memory

pub content-returns-then-low-eq31-clause-memory : goal.content-returns-then-low-eq31-clause-memory
content-returns-then-low-eq31-clause-memory t c =
    ends_same c.args.rules.now c.args.bytes.now (λ fuel. indefinite_walk any_key (walk any_key fuel) (c.args.first / 32)) (λ fuel. content_walk any_key (walk any_key fuel) (c.args.first / 32) (c.args.first % 32)) c.indefinite.result
    (λ fuel. on_indefinite any_key (walk any_key fuel) (c.args.first / 32) (c.args.first % 32) c.args.bytes.now c.if-major-eq7.false c.if-low-eq31.true) c.indefinite.ensures.memory

pub content-returns-else-low-eq31-clause-memory : goal.content-returns-else-low-eq31-clause-memory
content-returns-else-low-eq31-clause-memory t c =
    ends_same c.args.rules.now c.args.bytes.now (λ fuel. head_walk any_key (walk any_key fuel) (c.args.first / 32) (c.args.first % 32)) (λ fuel. content_walk any_key (walk any_key fuel) (c.args.first / 32) (c.args.first % 32)) c.head.result
    (λ fuel. on_head any_key (walk any_key fuel) (c.args.first / 32) (c.args.first % 32) c.args.bytes.now c.if-major-eq7.false c.if-low-eq31.false) c.head.ensures.memory

-- ---- an indefinite length

pub indefinite-returns-then-rules-clause-walks : goal.indefinite-returns-then-rules-clause-walks
indefinite-returns-then-rules-clause-walks t c =
    let sought = departure_from (under c.args.rules.now c.args.tags.now) in
    λ had fuel enough.
    indefinite_departs sought (walk sought fuel) c.args.major c.args.bytes.now DefiniteLengths (indefinite_broken (under c.args.rules.now c.args.tags.now) c.if-rules.true)

pub indefinite-returns-then-major-eq5-clause-walks : goal.indefinite-returns-then-major-eq5-clause-walks
indefinite-returns-then-major-eq5-clause-walks t c =
    let sought = departure_from (under c.args.rules.now c.args.tags.now) in
    λ had fuel enough.
    indefinite_pairs sought (walk sought fuel) c.args.major c.args.bytes.now (indefinite_kept (under c.args.rules.now c.args.tags.now) c.if-rules.false) c.if-major-eq5.true ∙ c.pairs.ensures.walks had fuel enough

pub indefinite-returns-then-major-eq4-clause-walks : goal.indefinite-returns-then-major-eq4-clause-walks
indefinite-returns-then-major-eq4-clause-walks t c =
    let sought = departure_from (under c.args.rules.now c.args.tags.now) in
    λ had fuel enough.
    indefinite_items sought (walk sought fuel) c.args.major c.args.bytes.now (indefinite_kept (under c.args.rules.now c.args.tags.now) c.if-rules.false) c.if-major-eq4.true ∙ c.open_items.ensures.walks had fuel enough

pub indefinite-returns-else-major-eq4-clause-walks : goal.indefinite-returns-else-major-eq4-clause-walks
indefinite-returns-else-major-eq4-clause-walks t c =
    let sought = departure_from (under c.args.rules.now c.args.tags.now) in
    λ had fuel enough.
    indefinite_chunks sought (walk sought fuel) c.args.major c.args.bytes.now (indefinite_kept (under c.args.rules.now c.args.tags.now) c.if-rules.false) c.if-major-eq5.false c.if-major-eq4.false ∙ c.chunks.ensures.walks had fuel enough

pub indefinite-returns-then-major-eq5-clause-memory : goal.indefinite-returns-then-major-eq5-clause-memory
indefinite-returns-then-major-eq5-clause-memory t c =
    ends_same c.args.rules.now c.args.bytes.now (λ fuel. pairs_walk any_key (walk any_key fuel) true (length c.args.bytes.now) []) (λ fuel. indefinite_walk any_key (walk any_key fuel) c.args.major) c.pairs.result
    (λ fuel. indefinite_pairs any_key (walk any_key fuel) c.args.major c.args.bytes.now refl c.if-major-eq5.true) c.pairs.ensures.memory

pub indefinite-returns-then-major-eq4-clause-memory : goal.indefinite-returns-then-major-eq4-clause-memory
indefinite-returns-then-major-eq4-clause-memory t c =
    ends_same c.args.rules.now c.args.bytes.now (λ fuel. open_walk any_key (walk any_key fuel) (length c.args.bytes.now) 0) (λ fuel. indefinite_walk any_key (walk any_key fuel) c.args.major) c.open_items.result
    (λ fuel. indefinite_items any_key (walk any_key fuel) c.args.major c.args.bytes.now refl c.if-major-eq4.true) c.open_items.ensures.memory

pub indefinite-returns-else-major-eq4-clause-memory : goal.indefinite-returns-else-major-eq4-clause-memory
indefinite-returns-else-major-eq4-clause-memory t c =
    ends_never c.args.rules.now c.args.bytes.now (λ fuel. indefinite_walk any_key (walk any_key fuel) c.args.major) c.chunks.result c.chunks.ensures.memory

-- ---- what follows a head with its number

pub inside-returns-then-major-le1-clause-walks : goal.inside-returns-then-major-le1-clause-walks
inside-returns-then-major-le1-clause-walks t c =
    let sought = departure_from (under c.args.rules.now c.args.tags.now) in
    λ had fuel enough.
    in_integer sought (walk sought fuel) c.args.major c.args.bytes.now c.args.n c.if-major-le1.true
    ∙ ap passed (let none : length c.args.bytes.now - length c.args.bytes.now ≡ 0 = omega arith in sym (ap (λ n. drop n c.args.bytes.now) none))

pub inside-returns-then-major-le3-clause-walks : goal.inside-returns-then-major-le3-clause-walks
inside-returns-then-major-le3-clause-walks t c =
    let sought = departure_from (under c.args.rules.now c.args.tags.now) in
    λ had fuel enough.
    in_string sought (walk sought fuel) c.args.major c.args.bytes.now c.args.n (omega (arith, c.if-major-le1.false)) c.if-major-le3.true ∙ c.past.ensures.walks had fuel enough

pub inside-returns-then-major-eq4-clause-walks : goal.inside-returns-then-major-eq4-clause-walks
inside-returns-then-major-eq4-clause-walks t c =
    let sought = departure_from (under c.args.rules.now c.args.tags.now) in
    λ had fuel enough.
    in_array sought (walk sought fuel) c.args.major c.args.bytes.now c.args.n c.if-major-eq4.true ∙ c.items.ensures.walks had fuel enough

pub inside-returns-then-major-eq5-clause-walks : goal.inside-returns-then-major-eq5-clause-walks
inside-returns-then-major-eq5-clause-walks t c =
    let sought = departure_from (under c.args.rules.now c.args.tags.now) in
    λ had fuel enough.
    in_map sought (walk sought fuel) c.args.major c.args.bytes.now c.args.n c.if-major-eq5.true ∙ c.pairs.ensures.walks had fuel enough

pub inside-returns-else-major-eq5-clause-walks : goal.inside-returns-else-major-eq5-clause-walks
inside-returns-else-major-eq5-clause-walks t c =
    let sought = departure_from (under c.args.rules.now c.args.tags.now) in
    λ had fuel enough.
    in_tag sought (walk sought fuel) c.args.major c.args.bytes.now c.args.n (omega (arith, c.if-major-le3.false, c.if-major-eq4.false, c.if-major-eq5.false)) ∙ c.item.ensures.walks had fuel enough

pub inside-returns-then-major-le3-clause-memory : goal.inside-returns-then-major-le3-clause-memory
inside-returns-then-major-le3-clause-memory t c =
    ends_never c.args.rules.now c.args.bytes.now (λ fuel. inside_walk any_key (walk any_key fuel) c.args.major c.args.n) c.past.result c.past.ensures.memory

pub inside-returns-then-major-eq4-clause-memory : goal.inside-returns-then-major-eq4-clause-memory
inside-returns-then-major-eq4-clause-memory t c =
    ends_same c.args.rules.now c.args.bytes.now (λ fuel. all_walk (walk any_key fuel) c.args.n) (λ fuel. inside_walk any_key (walk any_key fuel) c.args.major c.args.n) c.items.result
    (λ fuel. in_array any_key (walk any_key fuel) c.args.major c.args.bytes.now c.args.n c.if-major-eq4.true) c.items.ensures.memory

pub inside-returns-then-major-eq5-clause-memory : goal.inside-returns-then-major-eq5-clause-memory
inside-returns-then-major-eq5-clause-memory t c =
    ends_same c.args.rules.now c.args.bytes.now (λ fuel. pairs_walk any_key (walk any_key fuel) false c.args.n []) (λ fuel. inside_walk any_key (walk any_key fuel) c.args.major c.args.n) c.pairs.result
    (λ fuel. in_map any_key (walk any_key fuel) c.args.major c.args.bytes.now c.args.n c.if-major-eq5.true) c.pairs.ensures.memory

pub inside-returns-else-major-eq5-clause-memory : goal.inside-returns-else-major-eq5-clause-memory
inside-returns-else-major-eq5-clause-memory t c =
    ends_same c.args.rules.now c.args.bytes.now (walk any_key) (λ fuel. inside_walk any_key (walk any_key fuel) c.args.major c.args.n) c.item.result
    (λ fuel. in_tag any_key (walk any_key fuel) c.args.major c.args.bytes.now c.args.n (omega (arith, c.if-major-le3.false, c.if-major-eq4.false, c.if-major-eq5.false))) c.item.ensures.memory

-- ---- items

pub items-loop-i-init : goal.items-loop-i-init
items-loop-i-init t c =
    let sought = departure_from (under c.args.rules.now c.args.tags.now) in
    let all : c.args.n ≡ c.args.n - 0 = omega arith in
    record {
      within = omega arith;
      is_last = last_all c.args.bytes.now;
      so_far = λ fuel enough. ap (λ m. all_walk (walk sought fuel) m c.args.bytes.now) all;
      keys = λ fuel enough. inl (ap (λ m. all_walk (walk any_key fuel) m c.args.bytes.now) all);
    }

pub items-returns-in_default : goal.items-returns-in_default
items-returns-in_default t c =
    let sought = departure_from (under c.args.rules.now c.args.tags.now) in
    record {
      walks = λ had fuel enough.
          let few : length c.loop-i.rest.now ≤ fuel = omega (arith, enough, c.loop-i.invariant.within) in
          c.loop-i.invariant.so_far fuel enough ∙ all_other (walk sought fuel) c.args.n c.loop-i._i c.loop-i-test.true c.loop-i.rest.now c.args.bytes.now c.item.result (c.item.ensures.walks had fuel few) c.in_default.not-Passed;
      within = within_rest c.loop-i.rest.now c.args.bytes.now c.item.result c.loop-i.invariant.within c.item.ensures.within;
      memory = ends_part c.args.rules.now c.loop-i.rest.now c.args.bytes.now (walk any_key) (λ fuel. all_walk (walk any_key fuel) c.args.n) c.item.result c.loop-i.invariant.within
          (λ fuel enough departs. on_departs _ _ (c.loop-i.invariant.keys fuel enough) (all_departs (walk any_key fuel) c.args.n c.loop-i._i c.loop-i-test.true c.loop-i.rest.now departs))
          c.item.ensures.memory;
    }

pub items-loop-i-preserved : goal.items-loop-i-preserved
items-loop-i-preserved t c =
    let sought = departure_from (under c.args.rules.now c.args.tags.now) in
    let rest = c.loop-i.rest.now in
    let i = c.loop-i.invariant in
    let one = c.in-Passed.ensures in
    let next = next_rest c.behind-rest.result.now rest c.args.bytes.now c.in-Passed.left c.behind-rest.ensures one.within i.within i.is_last in
    record {
      within = next.0;
      is_last = next.1;
      so_far = λ fuel enough.
          let few : length rest ≤ fuel = omega (arith, enough, i.within) in
          i.so_far fuel enough ∙ all_step (walk sought fuel) c.args.n c.loop-i._i c.loop-i-test.true rest c.behind-rest.result.now (one.walks tt fuel few ∙ ap passed (sym c.behind-rest.ensures));
      keys = λ fuel enough.
          let few : length rest ≤ fuel = omega (arith, enough, i.within) in
          all_goes (walk any_key fuel) c.args.n c.loop-i._i c.loop-i-test.true rest (all_walk (walk any_key fuel) c.args.n c.args.bytes.now) c.behind-rest.result.now (i.keys fuel enough)
          ((walk_follows sought any_key fuel rest).goes c.behind-rest.result.now (one.walks tt fuel few ∙ ap passed (sym c.behind-rest.ensures)));
    }

pub items-returns-clause-walks : goal.items-returns-clause-walks
items-returns-clause-walks t c =
    let sought = departure_from (under c.args.rules.now c.args.tags.now) in
    λ had fuel enough.
    let i = c.loop-i.invariant in
    i.so_far fuel enough ∙ all_end (walk sought fuel) c.args.n c.loop-i._i c.loop-i.rest.now c.loop-i-test.false ∙ ap passed i.is_last

-- ---- the items of an indefinite length

pub open_items-loop-i-init : goal.open_items-loop-i-init
open_items-loop-i-init t c =
    let sought = departure_from (under c.args.rules.now c.args.tags.now) in
    let all : c.args.n ≡ c.args.n - 0 = omega arith in
    record {
      within = omega arith;
      is_last = last_all c.args.bytes.now;
      so_far = λ fuel enough. ap (λ m. open_walk sought (walk sought fuel) m 0 c.args.bytes.now) all;
      keys = λ fuel enough. inl (ap (λ m. open_walk any_key (walk any_key fuel) m 0 c.args.bytes.now) all);
    }

pub open_items-returns-then-ends-clause-walks : goal.open_items-returns-then-ends-clause-walks
open_items-returns-then-ends-clause-walks t c =
    let sought = departure_from (under c.args.rules.now c.args.tags.now) in
    λ had fuel enough.
    let i = c.loop-i.invariant in
    let rest = c.loop-i.rest.now in
    i.so_far fuel enough
    ∙ open_break sought (walk sought fuel) c.args.n c.loop-i.i c.loop-i-test.true rest (sym c.if-ends.ensures.value)
    ∙ ap passed (after_break rest c.args.bytes.now (c.if-ends.ensures.some refl) i.within i.is_last)

pub open_items-returns-in_default : goal.open_items-returns-in_default
open_items-returns-in_default t c =
    let sought = departure_from (under c.args.rules.now c.args.tags.now) in
    record {
      walks = λ had fuel enough.
          let few : length c.loop-i.rest.now ≤ fuel = omega (arith, enough, c.loop-i.invariant.within) in
          c.loop-i.invariant.so_far fuel enough ∙ open_other sought (walk sought fuel) c.args.n c.loop-i.i c.loop-i-test.true c.loop-i.rest.now (sym c.if-ends.ensures.value) c.args.bytes.now c.item.result (c.item.ensures.walks had fuel few) c.in_default.not-Passed;
      within = within_rest c.loop-i.rest.now c.args.bytes.now c.item.result c.loop-i.invariant.within c.item.ensures.within;
      memory = ends_part c.args.rules.now c.loop-i.rest.now c.args.bytes.now (walk any_key) (λ fuel. open_walk any_key (walk any_key fuel) c.args.n 0) c.item.result c.loop-i.invariant.within
          (λ fuel enough departs. on_departs _ _ (c.loop-i.invariant.keys fuel enough) (open_depart (walk any_key fuel) c.args.n c.loop-i.i c.loop-i-test.true c.loop-i.rest.now (sym c.if-ends.ensures.value) departs))
          c.item.ensures.memory;
    }

pub open_items-loop-i-preserved : goal.open_items-loop-i-preserved
open_items-loop-i-preserved t c =
    let sought = departure_from (under c.args.rules.now c.args.tags.now) in
    let rest = c.loop-i.rest.now in
    let i = c.loop-i.invariant in
    let one = c.in-Passed.ensures in
    let next = next_rest c.behind-rest.result.now rest c.args.bytes.now c.in-Passed.left c.behind-rest.ensures one.within i.within i.is_last in
    record {
      within = next.0;
      is_last = next.1;
      so_far = λ fuel enough.
          let few : length rest ≤ fuel = omega (arith, enough, i.within) in
          i.so_far fuel enough ∙ open_step sought (walk sought fuel) c.args.n c.loop-i.i c.loop-i-test.true rest (sym c.if-ends.ensures.value) c.behind-rest.result.now (one.walks tt fuel few ∙ ap passed (sym c.behind-rest.ensures)) (item_kept (under c.args.rules.now c.args.tags.now) c.loop-i.i (sym c.if-is_reached.ensures));
      keys = λ fuel enough.
          let few : length rest ≤ fuel = omega (arith, enough, i.within) in
          open_goes (walk any_key fuel) c.args.n c.loop-i.i c.loop-i-test.true rest (sym c.if-ends.ensures.value) (open_walk any_key (walk any_key fuel) c.args.n 0 c.args.bytes.now) c.behind-rest.result.now (i.keys fuel enough)
          ((walk_follows sought any_key fuel rest).goes c.behind-rest.result.now (one.walks tt fuel few ∙ ap passed (sym c.behind-rest.ensures)));
    }

pub open_items-returns-then-is_reached-clause-walks : goal.open_items-returns-then-is_reached-clause-walks
open_items-returns-then-is_reached-clause-walks t c =
    let sought = departure_from (under c.args.rules.now c.args.tags.now) in
    λ had fuel enough.
    let rest = c.loop-i.rest.now in
    let left = c.in-Passed.left in
    let i = c.loop-i.invariant in
    let one = c.in-Passed.ensures in
    let few : length rest ≤ fuel = omega (arith, enough, i.within) in
    i.so_far fuel enough
    ∙ open_departs sought (walk sought fuel) c.args.n c.loop-i.i c.loop-i-test.true rest (sym c.if-ends.ensures.value) (last left rest) (one.walks tt fuel few) MostItems (item_broken (under c.args.rules.now c.args.tags.now) c.loop-i.i (sym c.if-is_reached.ensures))
    ∙ ap (departed MostItems) (length-last left rest one.within)

pub open_items-returns-clause-walks : goal.open_items-returns-clause-walks
open_items-returns-clause-walks t c =
    let sought = departure_from (under c.args.rules.now c.args.tags.now) in
    λ had fuel enough.
    c.loop-i.invariant.so_far fuel enough ∙ open_end sought (walk sought fuel) c.args.n c.loop-i.i c.loop-i.rest.now c.loop-i-test.false

-- ---- pairs

pub pairs-loop-i-init : goal.pairs-loop-i-init
pairs-loop-i-init t c =
    let sought = departure_from (under c.args.rules.now c.args.tags.now) in
    let all : c.args.n ≡ c.args.n - 0 = omega arith in
    record {
      within = omega arith;
      is_last = last_all c.args.bytes.now;
      so_far = (
        [],
        (c.new-keys.ensures c.args.rules.now, refl),
        λ fuel enough. ap (λ m. pairs_walk sought (walk sought fuel) c.args.is_open m [] c.args.bytes.now) all,
        λ fuel enough. inl (ap (λ m. pairs_walk any_key (walk any_key fuel) c.args.is_open m [] c.args.bytes.now) all),
      );
    }

pub pairs-returns-then-ends-clause-walks : goal.pairs-returns-then-ends-clause-walks
pairs-returns-then-ends-clause-walks t c =
    let sought = departure_from (under c.args.rules.now c.args.tags.now) in
    λ had fuel enough.
    let i = c.loop-i.invariant in
    let rest = c.loop-i.rest.now in
    i.so_far.2 fuel enough
    ∙ pairs_break sought (walk sought fuel) c.args.is_open c.args.n c.loop-i.i c.loop-i-test.true i.so_far.0 rest (sym c.if-ends.ensures.value)
    ∙ ap passed (after_break rest c.args.bytes.now (c.if-ends.ensures.some refl) i.within i.is_last)

pub pairs-returns-in-Ok-Some-clause-walks : goal.pairs-returns-in-Ok-Some-clause-walks
pairs-returns-in-Ok-Some-clause-walks t c =
    let sought = departure_from (under c.args.rules.now c.args.tags.now) in
    λ had fuel enough.
    let rest = c.loop-i.rest.now in
    let left = c.in-Passed.left in
    let i = c.loop-i.invariant in
    let one = c.in-Passed.ensures in
    let earlier = i.so_far.0 in
    let k = c.ahead.result.now in
    let few : length rest ≤ fuel = omega (arith, enough, i.within) in
    i.so_far.2 fuel enough
    ∙ pairs_departs sought (walk sought fuel) c.args.is_open c.args.n c.loop-i.i c.loop-i-test.true earlier rest (sym c.if-ends.ensures.value) (last left rest) k (one.walks tt fuel few) (key_of k left rest c.ahead.ensures one.within) c.in-Ok-Some.rule (sym (c.in-Ok-Some.ensures.broken earlier i.so_far.1.0 i.so_far.1.1) ∙ c.in-Ok-Some.field-0-is)
    ∙ ap (departed c.in-Ok-Some.rule) (length-last left rest one.within)

pub pairs-returns-in-Err-clause-memory : goal.pairs-returns-in-Err-clause-memory
pairs-returns-in-Err-clause-memory t c =
    let sought = departure_from (under c.args.rules.now c.args.tags.now) in
    let rest = c.loop-i.rest.now in
    let left = c.in-Passed.left in
    let i = c.loop-i.invariant in (
      c.in-Err.ensures.unique,
      λ fuel enough.
          let few : length rest ≤ fuel = omega (arith, enough, i.within) in
          on_departs _ _ (i.so_far.3 fuel enough) (key_met (walk any_key fuel) c.args.is_open c.args.n c.loop-i.i c.loop-i-test.true rest (sym c.if-ends.ensures.value) i.so_far.0 (last left rest)
          ((walk_follows sought any_key fuel rest).goes (last left rest) (c.in-Passed.ensures.walks tt fuel few))),
    )

pub pairs-returns-in_default : goal.pairs-returns-in_default
pairs-returns-in_default t c =
    let sought = departure_from (under c.args.rules.now c.args.tags.now) in
    record {
      walks = λ had fuel enough.
          let i = c.loop-i.invariant in
          let few : length c.loop-i.rest.now ≤ fuel = omega (arith, enough, i.within) in
          i.so_far.2 fuel enough ∙ pairs_other sought (walk sought fuel) c.args.is_open c.args.n c.loop-i.i c.loop-i-test.true i.so_far.0 c.loop-i.rest.now (sym c.if-ends.ensures.value) c.args.bytes.now c.item.result (c.item.ensures.walks had fuel few) c.in_default.not-Passed;
      within = within_rest c.loop-i.rest.now c.args.bytes.now c.item.result c.loop-i.invariant.within c.item.ensures.within;
      memory = ends_part c.args.rules.now c.loop-i.rest.now c.args.bytes.now (walk any_key) (λ fuel. pairs_walk any_key (walk any_key fuel) c.args.is_open c.args.n []) c.item.result c.loop-i.invariant.within
          (λ fuel enough departs.
          let i = c.loop-i.invariant in
          on_departs _ _ (i.so_far.3 fuel enough) (pairs_depart (walk any_key fuel) c.args.is_open c.args.n c.loop-i.i c.loop-i-test.true c.loop-i.rest.now (sym c.if-ends.ensures.value) i.so_far.0 departs))
          c.item.ensures.memory;
    }

pub pairs-returns-in_default-item : goal.pairs-returns-in_default-item
pairs-returns-in_default-item t c =
    let sought = departure_from (under c.args.rules.now c.args.tags.now) in
    let rest = c.loop-i.rest.now in
    let left = c.in-Passed.left in
    let i = c.loop-i.invariant in
    let one = c.in-Passed.ensures in
    let earlier = i.so_far.0 in
    let k = c.ahead.result.now in
    let at_value = c.behind-rest.result.now in
    let next = next_rest at_value rest c.args.bytes.now left c.behind-rest.ensures one.within i.within i.is_last in
    record {
      walks = λ had fuel enough.
          let few : length rest ≤ fuel = omega (arith, enough, i.within) in
          let few' : length at_value ≤ fuel = omega (arith, enough, next.0) in
          i.so_far.2 fuel enough
          ∙ pairs_value_other sought (walk sought fuel) c.args.is_open c.args.n c.loop-i.i c.loop-i-test.true earlier rest (sym c.if-ends.ensures.value) at_value k (one.walks tt fuel few ∙ ap passed (sym c.behind-rest.ensures)) (key_at k at_value left rest c.ahead.ensures c.behind-rest.ensures one.within) (sym (c.in-Ok-None.ensures.broken earlier i.so_far.1.0 i.so_far.1.1) ∙ c.in-Ok-None.field-0-is) c.args.bytes.now c.item-in-loop-i.result (c.item-in-loop-i.ensures.walks had fuel few') c.in_default-item.not-Passed;
      within = within_rest at_value c.args.bytes.now c.item-in-loop-i.result next.0 c.item-in-loop-i.ensures.within;
      memory = ends_part c.args.rules.now at_value c.args.bytes.now (walk any_key) (λ fuel. pairs_walk any_key (walk any_key fuel) c.args.is_open c.args.n []) c.item-in-loop-i.result next.0
          (λ fuel enough departs.
          let few : length rest ≤ fuel = omega (arith, enough, i.within) in
          on_departs _ _ (i.so_far.3 fuel enough) (key_met (walk any_key fuel) c.args.is_open c.args.n c.loop-i.i c.loop-i-test.true rest (sym c.if-ends.ensures.value) earlier (last left rest)
          ((walk_follows sought any_key fuel rest).goes (last left rest) (one.walks tt fuel few))))
          c.item-in-loop-i.ensures.memory;
    }

pub pairs-loop-i-preserved : goal.pairs-loop-i-preserved
pairs-loop-i-preserved t c =
    let sought = departure_from (under c.args.rules.now c.args.tags.now) in
    let rest = c.loop-i.rest.now in
    let left = c.in-Passed.left in
    let i = c.loop-i.invariant in
    let one = c.in-Passed.ensures in
    let two = c.in-Passed-item.ensures in
    let earlier = i.so_far.0 in
    let k = c.ahead.result.now in
    let at_value = c.behind-rest.result.now in
    let more = c.behind-rest-in-Passed-item.result.now in
    let next = next_rest at_value rest c.args.bytes.now left c.behind-rest.ensures one.within i.within i.is_last in
    let next' = next_rest more at_value c.args.bytes.now c.in-Passed-item.left c.behind-rest-in-Passed-item.ensures two.within next.0 next.1 in
    record {
      within = next'.0;
      is_last = next'.1;
      so_far = (
        k ∷ earlier,
        (c.in-Ok-None.ensures.passed earlier i.so_far.1.0 c.in-Ok-None.field-0-is, omega (arith, i.so_far.1.1)),
        λ fuel enough.
            let few : length rest ≤ fuel = omega (arith, enough, i.within) in
            let few' : length at_value ≤ fuel = omega (arith, enough, next.0) in
            i.so_far.2 fuel enough
            ∙ pairs_step sought (walk sought fuel) c.args.is_open c.args.n c.loop-i.i c.loop-i-test.true earlier rest (sym c.if-ends.ensures.value) at_value k (one.walks tt fuel few ∙ ap passed (sym c.behind-rest.ensures)) (key_at k at_value left rest c.ahead.ensures c.behind-rest.ensures one.within) (sym (c.in-Ok-None.ensures.broken earlier i.so_far.1.0 i.so_far.1.1) ∙ c.in-Ok-None.field-0-is) more (two.walks tt fuel few' ∙ ap passed (sym c.behind-rest-in-Passed-item.ensures)),
        λ fuel enough.
            let few : length rest ≤ fuel = omega (arith, enough, i.within) in
            inr (on_departs _ _ (i.so_far.3 fuel enough) (key_met (walk any_key fuel) c.args.is_open c.args.n c.loop-i.i c.loop-i-test.true rest (sym c.if-ends.ensures.value) earlier (last left rest)
            ((walk_follows sought any_key fuel rest).goes (last left rest) (one.walks tt fuel few)))),
      );
    }

pub pairs-returns-clause-walks : goal.pairs-returns-clause-walks
pairs-returns-clause-walks t c =
    let sought = departure_from (under c.args.rules.now c.args.tags.now) in
    λ had fuel enough.
    let i = c.loop-i.invariant in
    i.so_far.2 fuel enough ∙ pairs_end sought (walk sought fuel) c.args.is_open c.args.n c.loop-i.i i.so_far.0 c.loop-i.rest.now c.loop-i-test.false ∙ c.ended.ensures.walks ∙ view_rest c.loop-i.rest.now c.args.bytes.now c.ended.result i.within i.is_last c.ended.ensures.within

pub pairs-returns-clause-memory : goal.pairs-returns-clause-memory
pairs-returns-clause-memory t c =
    ends_never c.args.rules.now c.args.bytes.now (λ fuel. pairs_walk any_key (walk any_key fuel) c.args.is_open c.args.n []) c.ended.result c.ended.ensures.memory
