use Rattle.std.proofs.Common.{◌≡◌, ◌∙◌, Some, refl, sym, ap, rules}
use Rattle.std.specs.Prelude.{Ok, FitsSigned}
use Rattle.std.specs.Int.{w128}
use Rattle.std.specs.String.{string_bytes}
use Rattle.std.proofs.lemmas.Int.{to_z-of_z}
use Rattle.cbor_model.specs.Plain as plain
use Rattle.cbor_model.specs.Plain.{Val, Pairs}
use Rattle.cbor_model.specs.Document.{declared, sequence, mapping, tagged, document_of, documents_of, document_pairs_of}
use Rattle.cbor_model.specs.Parts.{item, pairs, ending, part_bytes}
use Rattle.cbor_value.specs.declared.Value.{the_lemmas}
use Rattle.cbor_value.specs.View.{view, views, map_view, pair_views}
use Rattle.cbor_value.proofs.facts.Views.{view_bytes, view_text}
use Rattle.cbor_ser.proofs.Users as users
use Rattle.cbor_ser.proofs.Values.{list_head, pairs_head, next_value, no_value, next_pair, no_pair}
use Rattle.cbor_ser.proofs.WriteSteps.{by_parts, and_then, stops, same, nothing_is}
use Rattle.cbor_ser.proofs.serializer.Serializer.+value.Goals as goal

-- ---- values that hold no others

pub write_by_items-returns-in-Null : goal.write_by_items-returns-in-Null
unfolding document_of
write_by_items-returns-in-Null g t c =
    let is : view c.args.value.now ≡ plain.null = ap view c.in-Null.is ∙ search (rules, the_lemmas) in
    same (ap (λ (v : Val). item (document_of v)) (sym is)) c.serialize_unit.ensures

pub write_by_items-returns-in-Bool : goal.write_by_items-returns-in-Bool
unfolding document_of
write_by_items-returns-in-Bool g t c =
    let is : view c.args.value.now ≡ plain.bool c.in-Bool.b = ap view c.in-Bool.is ∙ search (rules, the_lemmas) in
    same (ap (λ (v : Val). item (document_of v)) (sym is)) c.serialize_bool.ensures

pub write_by_items-returns-in-Integer : goal.write_by_items-returns-in-Integer
unfolding document_of
write_by_items-returns-in-Integer g t c =
    let i = c.in-Integer.i in
    let fits : FitsSigned w128 i = search rules in
    let is : view c.args.value.now ≡ plain.integer i = ap view c.in-Integer.is ∙ search (rules, the_lemmas) in
    same (ap (λ (v : Val). item (document_of v)) (sym is)) (simp to_z-of_z at c.serialize_i128.ensures.written)

pub write_by_items-returns-in-Bytes : goal.write_by_items-returns-in-Bytes
unfolding document_of
write_by_items-returns-in-Bytes g t c =
    let is : view c.args.value.now ≡ plain.bytes c.deref.result.now = ap view c.in-Bytes.is ∙ view_bytes _ ∙ ap plain.bytes (sym c.deref.ensures.value) in
    same (ap (λ (v : Val). item (document_of v)) (sym is)) c.serialize_bytes.ensures

pub write_by_items-returns-in-Text : goal.write_by_items-returns-in-Text
unfolding document_of
write_by_items-returns-in-Text g t c =
    let s = c.in-Text.text in
    let text : string_bytes s ≡ c.deref-in-Text.result.now = search rules in
    let is : view c.args.value.now ≡ plain.text c.deref-in-Text.result.now = ap view c.in-Text.is ∙ view_text _ ∙ ap plain.text text in
    same (ap (λ (v : Val). item (document_of v)) (sym is)) c.serialize_str.ensures

-- ---- a head, and what follows

pub write_tagged-returns-in_err-serialize_tag : goal.write_tagged-returns-in_err-serialize_tag
unfolding document_of
write_tagged-returns-in_err-serialize_tag g t c =
    by_parts {d = tagged c.args.tag (document_of (view c.args.inner.now))} (stops c.from_residual.ensures.1 c.in_err-serialize_tag.ensures.err)

pub write_tagged-returns : goal.write_tagged-returns
unfolding document_of
write_tagged-returns g t c =
    by_parts {d = tagged c.args.tag (document_of (view c.args.inner.now))} (and_then c.in_ok-serialize_tag.ensures.ok c.write_by_items.ensures)

pub write_list-returns-in_err-write_array_head : goal.write_list-returns-in_err-write_array_head
unfolding document_of
write_list-returns-in_err-write_array_head g t c =
    let list = c.args.list.now in
    by_parts {d = sequence declared (documents_of (views list))} (users.stops c.in_err-write_array_head.ensures.err (list_head list) c.from_residual.ensures.1 refl)

pub write_list-returns : goal.write_list-returns
unfolding document_of
write_list-returns g t c =
    let list = c.args.list.now in
    by_parts {d = sequence declared (documents_of (views list))} (users.and_then c.in_ok-write_array_head.ensures.ok (list_head list) c.write_values.ensures)

pub write_map-returns-in_err-write_map_head : goal.write_map-returns-in_err-write_map_head
unfolding document_of
write_map-returns-in_err-write_map_head g t c =
    let ps = map_view c.args.map.now in
    by_parts {d = mapping declared (document_pairs_of ps)} (users.stops c.in_err-write_map_head.ensures.err (pairs_head ps c.len.result c.len.ensures.listed) c.from_residual.ensures.1 refl)

pub write_map-returns : goal.write_map-returns
unfolding document_of
write_map-returns g t c =
    let ps = map_view c.args.map.now in
    let listed : pair_views c.as_slice.result.now ≡ ps = search rules in
    by_parts {d = mapping declared (document_pairs_of ps)} (users.and_then c.in_ok-write_map_head.ensures.ok (pairs_head ps c.len.result c.len.ensures.listed)
    (same (ap (λ (qs : Pairs). pairs (document_pairs_of qs) (ending (Some 0))) listed) c.write_pairs.ensures))

-- ---- one after the other

pub write_values-loop-one-init : goal.write_values-loop-one-init
write_values-loop-one-init g t c = λ new r h. h

pub write_values-returns-in_err-write_by_items : goal.write_values-returns-in_err-write_by_items
write_values-returns-in_err-write_by_items g t c = c.loop-one.invariant _ _ (same (next_value _ _ _ c.loop-one-test.true c.one-item.is)
    (stops c.from_residual.ensures.1 c.in_err-write_by_items.ensures.err))

pub write_values-loop-one-preserved : goal.write_values-loop-one-preserved
write_values-loop-one-preserved g t c = λ new r rest. c.loop-one.invariant new r (same (next_value _ _ _ c.loop-one-test.true c.one-item.is)
    (and_then c.in_ok-write_by_items.ensures.ok rest))

pub write_values-returns : goal.write_values-returns
unfolding part_bytes
write_values-returns g t c = c.loop-one.invariant _ (Ok tt) (same (no_value _ _ c.loop-one-test.false) (nothing_is (ending (Some 0)) refl tt tt))

pub write_pairs-loop-key-init : goal.write_pairs-loop-key-init
write_pairs-loop-key-init g t c = λ new r h. h

pub write_pairs-returns-in_err-write_by_items : goal.write_pairs-returns-in_err-write_by_items
write_pairs-returns-in_err-write_by_items g t c = c.loop-key.invariant _ _ (same (next_pair _ _ _ c.loop-key-test.true c.loop-key-item.is)
    (stops c.from_residual.ensures.1 c.in_err-write_by_items.ensures.err))

pub write_pairs-returns-in_err-write_by_items-2 : goal.write_pairs-returns-in_err-write_by_items-2
write_pairs-returns-in_err-write_by_items-2 g t c = c.loop-key.invariant _ _ (same (next_pair _ _ _ c.loop-key-test.true c.loop-key-item.is)
    (and_then c.in_ok-write_by_items.ensures.ok (stops c.from_residual-in_err-write_by_items-2.ensures.1 c.in_err-write_by_items-2.ensures.err)))

pub write_pairs-loop-key-preserved : goal.write_pairs-loop-key-preserved
write_pairs-loop-key-preserved g t c = λ new r rest. c.loop-key.invariant new r (same (next_pair _ _ _ c.loop-key-test.true c.loop-key-item.is)
    (and_then c.in_ok-write_by_items.ensures.ok (and_then c.in_ok-write_by_items-2.ensures.ok rest)))

pub write_pairs-returns : goal.write_pairs-returns
unfolding part_bytes
write_pairs-returns g t c = c.loop-key.invariant _ (Ok tt) (same (no_pair _ _ c.loop-key-test.false) (nothing_is (ending (Some 0)) refl tt tt))
