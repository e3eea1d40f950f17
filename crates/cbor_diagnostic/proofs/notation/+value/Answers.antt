use Rattle.std.proofs.Common.{◌≡◌, ℕ, true, List, ◌==◌, codes, refl, sym, ap, ◌∙◌, subst, string_bytes, rules, Ok, Err}
use Rattle.std.proofs.lemmas.Result.{on_ok_weaker}
use Rattle.std.specs.Result.{IsOk, OnOk}
use Rattle.cbor_model.specs.Plain as plain
use Rattle.cbor_model.specs.Plain.{Val, Pairs}
use Rattle.cbor_value.specs.declared.Value.{Value, the_lemmas}
use Rattle.cbor_value.specs.View.{view, views, map_view, pair_views}
use Rattle.cbor_value.proofs.facts.Views.{count_views, view_bytes, view_text, view_array, view_map, view_tag}
use Rattle.cbor_diagnostic.specs.Numerals.{IsFloatNotation}
use Rattle.cbor_diagnostic.specs.Notation.{IsNotation, ArePairs}
use Rattle.cbor_diagnostic.specs.Prints.{Prints}
use Rattle.cbor_diagnostic.proofs.Numerals.{float_notation}
use Rattle.cbor_diagnostic.proofs.Printing.{Answer, begun, last_call, prints_text, prints_also}
use Rattle.cbor_diagnostic.proofs.Items.{next_item, no_more_items, next_pair, no_more_pairs, array_printed, map_printed, tag_printed, pair_printed, same_view}
use Rattle.cbor_diagnostic.proofs.notation.+value.Goals as goal

-- what a call took, where it was not refused
called : {P : Type 0} (r : Answer) → (IsOk r → P) → OnOk r P
called (Ok x) h = h refl
called (Err e) h = tt

pub write_items-loop-item-init : goal.write_items-loop-item-init
write_items-loop-item-init g t c = begun g.W.Write.write_str_gives _ _

pub write_items-loop-item-preserved : goal.write_items-loop-item-preserved
write_items-loop-item-preserved g t c =
    next_item c.args.indent c.loop-item.is_first c.args.items.now c.loop-item.item-index c.item-item.result c.loop-item-test.true c.item-item.is
    c.loop-item.invariant c.in_ok-write_lead.ensures c.in_ok-write_value.ensures

pub write_items-returns : goal.write_items-returns
write_items-returns g t c =
    no_more_items c.args.indent c.loop-item.is_first c.args.items.now c.loop-item.item-index c.loop-item-test.false c.loop-item.invariant

pub write_pairs-loop-pair-init : goal.write_pairs-loop-pair-init
write_pairs-loop-pair-init g t c = begun g.W.Write.write_str_gives _ _

pub write_pairs-loop-pair-preserved : goal.write_pairs-loop-pair-preserved
write_pairs-loop-pair-preserved g t c =
    next_pair c.args.indent c.loop-pair.is_first c.args.pairs.now c.loop-pair.pair-index c.pair-item.result c.loop-pair-test.true c.pair-item.is
    c.loop-pair.invariant c.in_ok-write_lead.ensures c.in_ok-write_pair.ensures

pub write_pairs-returns : goal.write_pairs-returns
write_pairs-returns g t c =
    no_more_pairs c.args.indent c.loop-pair.is_first c.args.pairs.now c.loop-pair.pair-index c.loop-pair-test.false c.loop-pair.invariant

-- ---- what holds others

pub write_pair-returns : goal.write_pair-returns
write_pair-returns g t c =
    on_ok_weaker c.write_value-2.result
    (λ h. pair_printed c.args.indent (view c.args.key.now) (view c.args.value.now) c.in_ok-write_value.ensures (c.in_ok-write_str.ensures.ok refl) h) c.write_value-2.ensures

pub write_tag-returns : goal.write_tag-returns
write_tag-returns g t c =
    on_ok_weaker c.write_str.result
    (λ h. tag_printed c.args.indent c.args.tag (view c.args.inner.now) c.in_ok-write.ensures.writes c.in_ok-write_value.ensures h)
    (called c.write_str.result c.write_str.ensures.ok)

pub write_array-returns : goal.write_array-returns
write_array-returns g t c =
    let vs = views c.args.items.now in
    on_ok_weaker c.close.result
    (λ h. array_printed c.args.indent c.in_ok-inside.inside vs c.is_empty.result c.in_ok-inside.ensures
    (c.is_empty.ensures ∙ ap (λ (n : ℕ). n == 0) (sym (count_views c.args.items.now))) (c.in_ok-write_str.ensures.ok refl) c.in_ok-write_items.ensures h)
    c.close.ensures

pub write_map-returns : goal.write_map-returns
write_map-returns g t c =
    let ps = map_view c.args.map.now in
    let listed : pair_views c.as_slice.result.now ≡ ps = search rules in
    on_ok_weaker c.close.result
    (λ h. map_printed c.args.indent c.in_ok-inside.inside ps (pair_views c.as_slice.result.now) c.is_empty.result listed c.in_ok-inside.ensures c.is_empty.ensures (c.in_ok-write_str.ensures.ok refl) c.in_ok-write_pairs.ensures h)
    c.close.ensures

-- ---- a value

pub write_value-returns-in-Null : goal.write_value-returns-in-Null
write_value-returns-in-Null g t c =
    let same : view c.args.value.now ≡ plain.null = ap view c.in-Null.is ∙ search (rules, the_lemmas) in
    same_view g.W.Write.write_str_gives _ _ c.args.indent c.write_str.result same
    (prints_text g.W.Write.write_str_gives _ _ (IsNotation c.args.indent plain.null) (codes "null") c.write_str.result refl (last_call g.W.Write.write_str_gives _ _ _ c.write_str.result c.write_str.ensures.ok))
