use Rattle.std.proofs.Common.{◌≡◌, ◌∙◌, Ok, Err, refl}
use Rattle.cbor_io.specs.Error.{code_of, offset_of}
use Rattle.cbor_decode.specs.declared.formats.Formats.{Formats}
use Rattle.cbor_described.specs.FieldLists.{FieldTaken, FieldRefused}
use Rattle.cbor_parts.specs.Keys.{keys_of}
use Rattle.cbor_decode_as.specs.Takes.{context, formats_of}
use Rattle.std.proofs.Common.{rules, subst, arith}
use Rattle.std.proofs.lemmas.Result.{err_from_is_err_and}
use Rattle.cbor_de.proofs.facts.Structs.{no_struct, no_field_named, field_named, other_passed, other_unread, field_missing, end_unread, struct_held}
use Rattle.cbor_de.proofs.facts.Structs.{keyed_one, unknown_other}
use Rattle.cbor_de.specs.Structs.{IsKeyed}
use Rattle.cbor_read.specs.Source.{Input}
use Rattle.cbor_described.proofs.FieldLists.{unread, begins_with, value_in, value_not_in, lacking_is, taken_from}
use Rattle.cbor_de.specs.Forms.{MayReport, any_of, key_form, never}
use Rattle.cbor_decode.proofs.facts.Steps.{advances_some}
use Rattle.cbor_de.proofs.facts.Forms.{key_in_map, later_in, of_left, took_then}
use Rattle.std.proofs.Common.{ℕ, List, Some, sym}
use Rattle.cbor_model.specs.Reader.{item_at}
use Rattle.cbor_read.specs.Source.{asks_for}
use Rattle.cbor_decode.specs.Gives.{Limits}
use Rattle.cbor_decode.specs.HasChunks.{AsksWhere, HasChunks}
use Rattle.cbor_decode_as.specs.Takes.{IsRead, raws}
use Rattle.cbor_de.specs.Structs.{IsAny}
use Rattle.cbor_de.specs.StructMemory.{AsksForValue}
use Rattle.cbor_de.specs.declared.field.Field.{Field}
use Rattle.cbor_de.proofs.facts.Structs.{gathered_twice, gathered_value, head_asked, key_asked, missing_asked, value_asked}
use Rattle.cbor_described.proofs.FieldLists.{FieldAsks, field_asks, memory_from, value_asks}
use Rattle.cbor_decode.specs.declared.head.Head.TheVariants as head
use Rattle.cbor_decode_as.specs.Takes.{ItemFault, WhereTotal, any_item}
use Rattle.cbor_decode_as.proofs.facts.Refusals.{always}
use Rattle.cbor_described.proofs.FieldFaults as fault
use Rattle.cbor_de.proofs.facts.Faults.{beginning_fault, said_if_any}
use Rattle.cbor_de.proofs.facts.MapFaults.{end_told, item_passes, key_fault, map_behind}
use Rattle.cbor_de.proofs.facts.MapFaults.{pair_goes_on, value_told}
use Rattle.cbor_described.proofs.field_list.fields_within.Goals as goal

-- ---- the map's head

pub returns-in_err-remaining-clause-read : goal.returns-in_err-remaining-clause-read
returns-in_err-remaining-clause-read g c =
    let old = c.args.de.now.decoder in
    let keys = keys_of c.args.keys.now in
    let keyed = IsKeyed keys in
    let fields = g.F.FieldList.fields (context old.formats g.R.Source.lends) in
    let e = c.in_err-remaining.field-0.0 in
    unread keyed fields g.R.Source.refusals old.formats old.levels (g.R.Source.source old.source) _ e c.from_residual.result c.from_residual.ensures.1
    (no_struct keyed fields g.R.Source.refusals (g.R.Source.source old.source) old.formats old.levels e c.in_err-remaining.ensures.read) (search rules)

pub fields-init : goal.fields-init
fields-init g c =
    let k = context c.args.de.now.decoder.formats g.R.Source.lends in
    record {
      formats = c.in_ok-remaining.ensures.formats;
      advances = c.in_ok-remaining.ensures.taken;
      so_far = begins_with (IsKeyed (keys_of c.args.keys.now)) (g.F.FieldList.fields k) _ (c.none-held.ensures k) c.in_ok-remaining.ensures.read c.in_ok-remaining.ensures.formats;
      fault = map_behind c.args.de.now.decoder.levels c.map_head.new.de.decoder.levels _ _ c.in_ok-remaining.remaining c.in_ok-remaining.ensures.opened;
    }

-- ---- the next key

pub returns-in_err-field-clause-read : goal.returns-in_err-field-clause-read
returns-in_err-field-clause-read g c =
    let old = c.args.de.now.decoder in
    let keys = keys_of c.args.keys.now in
    let keyed = IsKeyed keys in
    let fields = g.F.FieldList.fields (context old.formats g.R.Source.lends) in
    let e = c.in_err-field.field-0.0 in
    unread keyed fields g.R.Source.refusals old.formats old.levels (g.R.Source.source old.source) _ e c.from_residual-in_err-field.result c.from_residual-in_err-field.ensures.1
    (no_field_named keyed fields c.fields.invariant.so_far g.R.Source.refusals (code_of e) (offset_of e) c.in_err-field.ensures.read) (search rules)

-- ---- its value

pub fields-preserved-then-take_at_hand : goal.fields-preserved-then-take_at_hand
fields-preserved-then-take_at_hand g c =
    let i = c.fields.invariant in
    let keys = keys_of c.args.keys.now in
    let keyed = IsKeyed keys in
    let fields = λ (f : Formats). g.F.FieldList.fields (context f g.R.Source.lends) in
    let slots = λ (f : Formats). g.F.FieldList.slots (context f g.R.Source.lends) in
    let next = c.in_ok-field.ensures in
    let key = field_named keyed (fields c.args.de.now.decoder.formats) i.so_far c.in_ok-field.field-0 c.in-Some.field c.in-Some.is c.next_key.new.remaining next.read next.settings.formats next.settings.levels in
    let now = c.next_key.new.de.decoder in
    let done = c.take_at_hand.ensures in
    let named = advances_some _ _ _ i.advances next.read.took in
    let read = rw c.if-take_at_hand.true at done.read in
    let taken = subst (λ (f : Formats). FieldTaken (formats_of now.formats) now.levels (fields f) c.in-Known.i (slots f c.fields.held) (slots f c.take_at_hand.new.held) (g.R.Source.source now.source) (g.R.Source.source c.take_at_hand.new.de.decoder.source)) (next.settings.formats ∙ i.formats) read in
    record {
      formats = done.settings.formats ∙ next.settings.formats ∙ i.formats;
      advances = record { further = omega (arith, named.further, done.forward); counted = named.counted };
      so_far = value_in keyed (fields c.args.de.now.decoder.formats) key c.in-Known.i c.in-Known.is (keyed_one keys) done.settings.formats done.settings.levels refl (slots c.args.de.now.decoder.formats c.take_at_hand.new.held) taken;
      fault = pair_goes_on keyed c.args.de.now.decoder.levels c.fields.de.decoder.levels c.fields.remaining i.fault (formats_of c.fields.de.decoder.formats) c.in_ok-field.field-0 c.next_key.new.remaining next.read c.in-Some.field c.in-Some.is next.settings.levels done.settings.levels (fault.field_passes (formats_of now.formats) now.levels (fields now.formats) c.in-Known.i (slots now.formats c.fields.held) (slots now.formats c.take_at_hand.new.held) _ _ read);
    }

pub fields-preserved-in-Continue-branch-4 : goal.fields-preserved-in-Continue-branch-4
fields-preserved-in-Continue-branch-4 g c =
    let i = c.fields.invariant in
    let keys = keys_of c.args.keys.now in
    let keyed = IsKeyed keys in
    let fields = λ (f : Formats). g.F.FieldList.fields (context f g.R.Source.lends) in
    let slots = λ (f : Formats). g.F.FieldList.slots (context f g.R.Source.lends) in
    let next = c.in_ok-field.ensures in
    let key = field_named keyed (fields c.args.de.now.decoder.formats) i.so_far c.in_ok-field.field-0 c.in-Some.field c.in-Some.is c.next_key.new.remaining next.read next.settings.formats next.settings.levels in
    let now = c.next_key.new.de.decoder in
    let kept = c.take_at_hand.new.de.decoder in
    let none = c.take_at_hand.ensures in
    let done = c.in_ok-take-in-Known.ensures in
    let named = advances_some _ _ _ i.advances next.read.took in
    let here : g.R.Source.source kept.source ≡ g.R.Source.source now.source = rw c.if-take_at_hand.false at none.read in
    let held : c.take_at_hand.new.held ≡ c.fields.held = rw c.if-take_at_hand.false at none.held in
    let t = g.R.Source.source c.take.new.de.decoder.source in
    let read = taken_from fields slots g.R.Source.refusals now.formats kept.formats none.settings.formats now.levels kept.levels none.settings.levels c.fields.held c.take_at_hand.new.held c.take.new.held held (g.R.Source.source now.source) (g.R.Source.source kept.source) t here c.in-Known.i (Ok tt) done.read in
    let taken = subst (λ (f : Formats). FieldTaken (formats_of now.formats) now.levels (fields f) c.in-Known.i (slots f c.fields.held) (slots f c.take.new.held) (g.R.Source.source now.source) t) (next.settings.formats ∙ i.formats) read in
    record {
      formats = done.settings.formats ∙ none.settings.formats ∙ next.settings.formats ∙ i.formats;
      advances = record { further = omega (arith, named.further, none.forward, done.forward); counted = named.counted };
      so_far = value_in keyed (fields c.args.de.now.decoder.formats) key c.in-Known.i c.in-Known.is (keyed_one keys) (done.settings.formats ∙ none.settings.formats) (done.settings.levels ∙ none.settings.levels) refl (slots c.args.de.now.decoder.formats c.take.new.held) taken;
      fault = pair_goes_on keyed c.args.de.now.decoder.levels c.fields.de.decoder.levels c.fields.remaining i.fault (formats_of c.fields.de.decoder.formats) c.in_ok-field.field-0 c.next_key.new.remaining next.read c.in-Some.field c.in-Some.is next.settings.levels (done.settings.levels ∙ none.settings.levels) (fault.field_passes (formats_of now.formats) now.levels (fields now.formats) c.in-Known.i (slots now.formats c.fields.held) (slots now.formats c.take.new.held) _ _ read);
    }

pub returns-in_err-take-in-Known-clause-read : goal.returns-in_err-take-in-Known-clause-read
returns-in_err-take-in-Known-clause-read g c =
    let old = c.args.de.now.decoder in
    let i = c.fields.invariant in
    let keys = keys_of c.args.keys.now in
    let keyed = IsKeyed keys in
    let fields = λ (f : Formats). g.F.FieldList.fields (context f g.R.Source.lends) in
    let slots = λ (f : Formats). g.F.FieldList.slots (context f g.R.Source.lends) in
    let next = c.in_ok-field.ensures in
    let key = field_named keyed (fields old.formats) i.so_far c.in_ok-field.field-0 c.in-Some.field c.in-Some.is c.next_key.new.remaining next.read next.settings.formats next.settings.levels in
    let now = c.next_key.new.de.decoder in
    let kept = c.take_at_hand.new.de.decoder in
    let none = c.take_at_hand.ensures in
    let e = c.in_err-take-in-Known.field-0.0 in
    let here : g.R.Source.source kept.source ≡ g.R.Source.source now.source = rw c.if-take_at_hand.false at none.read in
    let held : c.take_at_hand.new.held ≡ c.fields.held = rw c.if-take_at_hand.false at none.held in
    let t = g.R.Source.source c.take.new.de.decoder.source in
    let read = taken_from fields slots g.R.Source.refusals now.formats kept.formats none.settings.formats now.levels kept.levels none.settings.levels c.fields.held c.take_at_hand.new.held c.take.new.held held (g.R.Source.source now.source) (g.R.Source.source kept.source) t here c.in-Known.i (Err e) c.in_err-take-in-Known.ensures.read in
    let refused = subst (λ (f : Formats). FieldRefused (formats_of now.formats) now.levels g.R.Source.refusals (fields f) c.in-Known.i (slots f c.fields.held) (g.R.Source.source now.source) t e) (next.settings.formats ∙ i.formats) read in
    unread keyed (fields old.formats) g.R.Source.refusals old.formats old.levels (g.R.Source.source old.source) _ e c.from_residual-in_err-take-in-Known.result c.from_residual-in_err-take-in-Known.ensures.1
    (value_not_in keyed (fields old.formats) key c.in-Known.i c.in-Known.is g.R.Source.refusals e refused) (search rules)

pub fields-preserved : goal.fields-preserved
fields-preserved g c =
    let i = c.fields.invariant in
    let keys = keys_of c.args.keys.now in
    let keyed = IsKeyed keys in
    let fields = g.F.FieldList.fields (context c.args.de.now.decoder.formats g.R.Source.lends) in
    let next = c.in_ok-field.ensures in
    let done = c.in_ok-skip_item-in-Unknown.ensures in
    record {
      formats = done.settings.formats ∙ next.settings.formats ∙ i.formats;
      advances = advances_some _ _ _ i.advances (took_then next.read.took done.read.took);
      so_far = other_passed keyed fields i.so_far c.in_ok-field.field-0 c.in-Some.field c.in-Some.is c.next_key.new.remaining next.read next.settings.formats next.settings.levels done.settings.formats done.settings.levels refl (keyed_one keys) (unknown_other fields c.in-Unknown.is) done.read;
      fault = pair_goes_on keyed c.args.de.now.decoder.levels c.fields.de.decoder.levels c.fields.remaining i.fault (formats_of c.fields.de.decoder.formats) c.in_ok-field.field-0 c.next_key.new.remaining next.read c.in-Some.field c.in-Some.is next.settings.levels done.settings.levels (item_passes IsAny (formats_of c.next_key.new.de.decoder.formats) c.next_key.new.de.decoder.levels tt _ _ done.read);
    }

pub returns-in_err-skip_item-in-Unknown-clause-read : goal.returns-in_err-skip_item-in-Unknown-clause-read
returns-in_err-skip_item-in-Unknown-clause-read g c =
    let old = c.args.de.now.decoder in
    let keys = keys_of c.args.keys.now in
    let keyed = IsKeyed keys in
    let fields = g.F.FieldList.fields (context old.formats g.R.Source.lends) in
    let next = c.in_ok-field.ensures in
    let e = c.in_err-skip_item-in-Unknown.field-0.0 in
    unread keyed fields g.R.Source.refusals old.formats old.levels (g.R.Source.source old.source) _ e c.from_residual-in_err-skip_item-in-Unknown.result c.from_residual-in_err-skip_item-in-Unknown.ensures.1
    (other_unread keyed fields c.fields.invariant.so_far c.in_ok-field.field-0 c.in-Some.field c.in-Some.is c.next_key.new.remaining next.read next.settings.formats next.settings.levels g.R.Source.refusals (code_of e) (offset_of e) c.in_err-skip_item-in-Unknown.ensures.read) (search rules)

-- ---- the end

pub returns-in_err-parts-clause-read : goal.returns-in_err-parts-clause-read
returns-in_err-parts-clause-read g c =
    let old = c.args.de.now.decoder in
    let k = context old.formats g.R.Source.lends in
    let keys = keys_of c.args.keys.now in
    let keyed = IsKeyed keys in
    let fields = g.F.FieldList.fields k in
    let e = c.in_err-parts.field-0.0 in
    let lacking = lacking_is fields _ (g.F.FieldList.slots k c.fields.held) (code_of e) (c.in_err-parts.ensures.lacking k) in
    unread keyed fields g.R.Source.refusals old.formats old.levels (g.R.Source.source old.source) _ e c.from_residual-in_err-parts.result c.from_residual-in_err-parts.ensures.1
    (field_missing keyed fields c.fields.invariant.so_far c.in_ok-field.field-0 c.in_default.is c.next_key.new.remaining c.in_ok-field.ensures.read g.R.Source.refusals (code_of e) (offset_of e) lacking.0 lacking.1) (search rules)

pub returns-in_err-end_map-clause-read : goal.returns-in_err-end_map-clause-read
returns-in_err-end_map-clause-read g c =
    let old = c.args.de.now.decoder in
    let keys = keys_of c.args.keys.now in
    let keyed = IsKeyed keys in
    let fields = g.F.FieldList.fields (context old.formats g.R.Source.lends) in
    let e = c.in_err-end_map.field-0.0 in
    let nothing = rw c.in_default.is at c.in_ok-field.ensures.remains in
    unread keyed fields g.R.Source.refusals old.formats old.levels (g.R.Source.source old.source) _ e c.from_residual-in_err-end_map.result c.from_residual-in_err-end_map.ensures.1
    (end_unread keyed fields c.fields.invariant.so_far c.in_ok-field.field-0 c.in_default.is c.next_key.new.remaining c.in_ok-field.ensures.read g.R.Source.refusals (g.R.Source.source c.end_map.new.de.decoder.source) e nothing c.in_err-end_map.ensures.read) (search rules)

pub returns-clause-read : goal.returns-clause-read
returns-clause-read g c =
    let k = context c.args.de.now.decoder.formats g.R.Source.lends in
    let nothing = rw c.in_default.is at c.in_ok-field.ensures.remains in
    struct_held (IsKeyed (keys_of c.args.keys.now)) (g.F.FieldList.fields k) c.fields.invariant.so_far c.in_ok-field.field-0 c.in_default.is c.next_key.new.remaining c.in_ok-field.ensures.read
    c.in_ok-parts.parts (c.in_ok-parts.ensures.all k) nothing c.in_ok-end_map.ensures.read refl

-- ---- a wrong form

pub returns-in_err-field-clause-form : goal.returns-in_err-field-clause-form
returns-in_err-field-clause-form g c =
    let passed = err_from_is_err_and c.from_residual-in_err-field.result c.from_residual-in_err-field.ensures.1 in
    let i = c.fields.invariant in
    let e = c.in_err-field.field-0.0 in
    let old = c.args.de.now.decoder in
    let so = i.so_far in
    rw (passed.1, passed.2) (of_left key_form g.F.FieldList.wrong_forms _ _ e
    (key_in_map _ old.formats old.levels so.deep so.all c.fields.remaining _ so.first _ so.head so.so_far never c.fields.de.decoder.formats e i.formats c.in_err-field.ensures.form))

pub returns-in_err-take-in-Known-clause-form : goal.returns-in_err-take-in-Known-clause-form
returns-in_err-take-in-Known-clause-form g c =
    let passed = err_from_is_err_and c.from_residual-in_err-take-in-Known.result c.from_residual-in_err-take-in-Known.ensures.1 in
    let i = c.fields.invariant in
    let e = c.in_err-take-in-Known.field-0.0 in
    let next = c.in_ok-field.ensures in
    let none = c.take_at_hand.ensures in
    let now = c.next_key.new.de.decoder in
    let kept = c.take_at_hand.new.de.decoder in
    let here : g.R.Source.source kept.source ≡ g.R.Source.source now.source = rw c.if-take_at_hand.false at none.read in
    let took = took_then (took_then i.so_far.head.took i.so_far.so_far.took) next.read.took in
    let form = subst (λ (x : Input). MayReport (any_of key_form g.F.FieldList.wrong_forms) (formats_of kept.formats) x e) here c.in_err-take-in-Known.ensures.form in
    rw (passed.1, passed.2) (later_in (any_of key_form g.F.FieldList.wrong_forms) c.args.de.now.decoder.formats kept.formats _ _ e (none.settings.formats ∙ next.settings.formats ∙ i.formats) took form)

pub returns-in_err-skip_item-in-Unknown-clause-form : goal.returns-in_err-skip_item-in-Unknown-clause-form
returns-in_err-skip_item-in-Unknown-clause-form g c =
    let passed = err_from_is_err_and c.from_residual-in_err-skip_item-in-Unknown.result c.from_residual-in_err-skip_item-in-Unknown.ensures.1 in
    let i = c.fields.invariant in
    let e = c.in_err-skip_item-in-Unknown.field-0.0 in
    let next = c.in_ok-field.ensures in
    let took = took_then (took_then i.so_far.head.took i.so_far.so_far.took) next.read.took in
    rw (passed.1, passed.2) (of_left key_form g.F.FieldList.wrong_forms _ _ e (later_in key_form c.args.de.now.decoder.formats c.next_key.new.de.decoder.formats _ _ e (next.settings.formats ∙ i.formats) took c.in_err-skip_item-in-Unknown.ensures.form))

pub returns-clause-taken : goal.returns-clause-taken
returns-clause-taken g c =
    advances_some _ _ _ c.fields.invariant.advances (took_then c.in_ok-field.ensures.read.took c.in_ok-end_map.ensures.read.took)

-- ---- memory

pub returns-in_err-remaining-clause-memory : goal.returns-in_err-remaining-clause-memory
returns-in_err-remaining-clause-memory g c =
    let passed = err_from_is_err_and c.from_residual.result c.from_residual.ensures.1 in
    let old = c.args.de.now.decoder in
    let keys = keys_of c.args.keys.now in
    let keyed = IsKeyed keys in
    let fields = λ (f : Formats). g.F.FieldList.fields (context f g.R.Source.lends) in
    let slots = λ (f : Formats). g.F.FieldList.slots (context f g.R.Source.lends) in
    let a = asks_for g.R.Source.refusals g.R.Source.lends in
    let values = g.F.FieldList.asks a in
    let s = g.R.Source.source old.source in
    rw (passed.1, passed.2) (head_asked keyed (fields old.formats) a values old.formats old.levels s c.in_err-remaining.field-0.0 c.in_err-remaining.ensures.memory)

pub returns-in_err-field-clause-memory : goal.returns-in_err-field-clause-memory
returns-in_err-field-clause-memory g c =
    let passed = err_from_is_err_and c.from_residual-in_err-field.result c.from_residual-in_err-field.ensures.1 in
    let old = c.args.de.now.decoder in
    let keys = keys_of c.args.keys.now in
    let keyed = IsKeyed keys in
    let fields = λ (f : Formats). g.F.FieldList.fields (context f g.R.Source.lends) in
    let slots = λ (f : Formats). g.F.FieldList.slots (context f g.R.Source.lends) in
    let a = asks_for g.R.Source.refusals g.R.Source.lends in
    let values = g.F.FieldList.asks a in
    let s = g.R.Source.source old.source in
    rw (passed.1, passed.2) (key_asked keyed (fields old.formats) a values c.fields.invariant.so_far c.in_err-field.field-0.0 c.in_err-field.ensures.memory)

pub returns-in_err-take-in-Known-clause-memory : goal.returns-in_err-take-in-Known-clause-memory
returns-in_err-take-in-Known-clause-memory g c =
    let passed = err_from_is_err_and c.from_residual-in_err-take-in-Known.result c.from_residual-in_err-take-in-Known.ensures.1 in
    let old = c.args.de.now.decoder in
    let keys = keys_of c.args.keys.now in
    let keyed = IsKeyed keys in
    let fields = λ (f : Formats). g.F.FieldList.fields (context f g.R.Source.lends) in
    let slots = λ (f : Formats). g.F.FieldList.slots (context f g.R.Source.lends) in
    let a = asks_for g.R.Source.refusals g.R.Source.lends in
    let values = g.F.FieldList.asks a in
    let s = g.R.Source.source old.source in
    let so = c.fields.invariant.so_far in
    let next = c.in_ok-field.ensures in
    let now = c.next_key.new.de.decoder in
    let kept = c.take_at_hand.new.de.decoder in
    let none = c.take_at_hand.ensures in
    let e = c.in_err-take-in-Known.field-0.0 in
    let i = c.in-Known.i in
    let here : g.R.Source.source kept.source ≡ g.R.Source.source now.source = rw c.if-take_at_hand.false at none.read in
    let held : c.take_at_hand.new.held ≡ c.fields.held = rw c.if-take_at_hand.false at none.held in
    let u = g.R.Source.source now.source in
    let memory = memory_from fields slots kept.formats kept.levels values c.fields.held c.take_at_hand.new.held held u (g.R.Source.source kept.source) here i e c.in_err-take-in-Known.ensures.memory in
    let V = λ (h : Formats) (n : ℕ) (l : Limits) (bs : List ℕ). FieldAsks (formats_of h) n l bs values (fields h) i (slots h c.fields.held) in
    rw (passed.1, passed.2) (value_asked keyed (fields old.formats) a values so c.in_ok-field.field-0 c.in-Some.field c.in-Some.is c.next_key.new.remaining next.read (none.settings.formats ∙ next.settings.formats) (none.settings.levels ∙ next.settings.levels) e V
    (λ l bs front k v more x after holds named is all asks.
    let key = subst (λ (field : Field). keyed k field) c.in-Known.is named in
    let asked = value_asks (formats_of old.formats) so.deep values (fields old.formats) i (slots old.formats c.fields.held) l bs after v is
    (λ some. gathered_twice keyed (fields old.formats) (slots old.formats c.fields.held) front k v i more x some holds key all)
    (λ missing. gathered_value keyed (fields old.formats) (slots old.formats c.fields.held) front k v i more x missing holds key all) asks in
    subst (λ (field : Field). AsksForValue a values field v) (sym c.in-Known.is) asked)
    (field_asks (formats_of kept.formats) kept.levels values (fields kept.formats) i (slots kept.formats c.fields.held) u e memory))

pub returns-in_err-skip_item-in-Unknown-clause-memory : goal.returns-in_err-skip_item-in-Unknown-clause-memory
returns-in_err-skip_item-in-Unknown-clause-memory g c =
    let passed = err_from_is_err_and c.from_residual-in_err-skip_item-in-Unknown.result c.from_residual-in_err-skip_item-in-Unknown.ensures.1 in
    let old = c.args.de.now.decoder in
    let keys = keys_of c.args.keys.now in
    let keyed = IsKeyed keys in
    let fields = λ (f : Formats). g.F.FieldList.fields (context f g.R.Source.lends) in
    let slots = λ (f : Formats). g.F.FieldList.slots (context f g.R.Source.lends) in
    let a = asks_for g.R.Source.refusals g.R.Source.lends in
    let values = g.F.FieldList.asks a in
    let s = g.R.Source.source old.source in
    let next = c.in_ok-field.ensures in
    let e = c.in_err-skip_item-in-Unknown.field-0.0 in
    let V = λ (h : Formats) (n : ℕ) (l : Limits) (bs : List ℕ). (u : Unit {0}) (after : List ℕ) → (got : IsRead IsAny (item_at (raws (formats_of h) l) n bs) u after) → AsksWhere a (HasChunks got.item) in
    rw (passed.1, passed.2) (value_asked keyed (fields old.formats) a values c.fields.invariant.so_far c.in_ok-field.field-0 c.in-Some.field c.in-Some.is c.next_key.new.remaining next.read next.settings.formats next.settings.levels e V
    (λ l bs front k v more x after holds named is all asks. subst (λ (field : Field). AsksForValue a values field v) (sym c.in-Unknown.is) (asks tt after (record { item = v; is = is; means = tt })))
    c.in_err-skip_item-in-Unknown.ensures.memory)

pub returns-in_err-parts-clause-memory : goal.returns-in_err-parts-clause-memory
returns-in_err-parts-clause-memory g c =
    let passed = err_from_is_err_and c.from_residual-in_err-parts.result c.from_residual-in_err-parts.ensures.1 in
    let old = c.args.de.now.decoder in
    let keys = keys_of c.args.keys.now in
    let keyed = IsKeyed keys in
    let fields = λ (f : Formats). g.F.FieldList.fields (context f g.R.Source.lends) in
    let slots = λ (f : Formats). g.F.FieldList.slots (context f g.R.Source.lends) in
    let a = asks_for g.R.Source.refusals g.R.Source.lends in
    let values = g.F.FieldList.asks a in
    let s = g.R.Source.source old.source in
    let k = context old.formats g.R.Source.lends in
    let lacking = lacking_is (fields old.formats) _ (slots old.formats c.fields.held) (code_of c.in_err-parts.field-0.0) (c.in_err-parts.ensures.lacking k) in
    rw (passed.1, passed.2) (missing_asked keyed (fields old.formats) a values c.fields.invariant.so_far c.in_ok-field.field-0 c.in_default.is c.next_key.new.remaining c.in_ok-field.ensures.read c.in_err-parts.field-0.0 lacking.0 lacking.1)

pub returns-in_err-end_map-clause-memory : goal.returns-in_err-end_map-clause-memory
returns-in_err-end_map-clause-memory g c =
    let passed = err_from_is_err_and c.from_residual-in_err-end_map.result c.from_residual-in_err-end_map.ensures.1 in
    rw (passed.1, passed.2) (λ out bs reports x rest got. absurd (c.in_err-end_map.ensures.memory out))

-- ---- the fault

pub returns-in_err-remaining-clause-fault : goal.returns-in_err-remaining-clause-fault
returns-in_err-remaining-clause-fault g c =
    let passed = err_from_is_err_and c.from_residual.result c.from_residual.ensures.1 in
    let old = c.args.de.now.decoder in
    rw (passed.1, passed.2) (always g.F.FieldList.reports_faults (beginning_fault g.R.Source.refusals (g.R.Source.source old.source) c.in_err-remaining.field-0.0 head.Map old.levels c.in_err-remaining.ensures.fault))

pub returns-in_err-field-clause-fault : goal.returns-in_err-field-clause-fault
returns-in_err-field-clause-fault g c =
    let passed = err_from_is_err_and c.from_residual-in_err-field.result c.from_residual-in_err-field.ensures.1 in
    let old = c.args.de.now.decoder in
    let now = c.fields.de.decoder in
    rw (passed.1, passed.2) (always g.F.FieldList.reports_faults
    (key_fault old.levels now.levels g.R.Source.refusals c.in_err-field.field-0.0 (g.R.Source.source old.source) (g.R.Source.source now.source) c.fields.remaining c.fields.invariant.fault (formats_of now.formats) c.in_err-field.ensures.fault))

pub returns-in_err-take-in-Known-clause-fault : goal.returns-in_err-take-in-Known-clause-fault
returns-in_err-take-in-Known-clause-fault g c =
    let passed = err_from_is_err_and c.from_residual-in_err-take-in-Known.result c.from_residual-in_err-take-in-Known.ensures.1 in
    let i = c.fields.invariant in
    let keyed = IsKeyed (keys_of c.args.keys.now) in
    let next = c.in_ok-field.ensures in
    let none = c.take_at_hand.ensures in
    let now = c.next_key.new.de.decoder in
    let kept = c.take_at_hand.new.de.decoder in
    let e = c.in_err-take-in-Known.field-0.0 in
    let here : g.R.Source.source kept.source ≡ g.R.Source.source now.source = rw c.if-take_at_hand.false at none.read in
    let told = subst (λ (x : Input). WhereTotal g.F.FieldList.reports_faults (ItemFault g.R.Source.refusals kept.levels x e)) here c.in_err-take-in-Known.ensures.fault in
    rw (passed.1, passed.2) (value_told keyed c.args.de.now.decoder.levels c.fields.de.decoder.levels c.fields.remaining i.fault (formats_of c.fields.de.decoder.formats) c.in_ok-field.field-0 c.next_key.new.remaining next.read c.in-Some.field c.in-Some.is g.R.Source.refusals e g.F.FieldList.reports_faults (none.settings.levels ∙ next.settings.levels) told)

pub returns-in_err-skip_item-in-Unknown-clause-fault : goal.returns-in_err-skip_item-in-Unknown-clause-fault
returns-in_err-skip_item-in-Unknown-clause-fault g c =
    let passed = err_from_is_err_and c.from_residual-in_err-skip_item-in-Unknown.result c.from_residual-in_err-skip_item-in-Unknown.ensures.1 in
    let i = c.fields.invariant in
    let keyed = IsKeyed (keys_of c.args.keys.now) in
    let next = c.in_ok-field.ensures in
    let e = c.in_err-skip_item-in-Unknown.field-0.0 in
    rw (passed.1, passed.2) (value_told keyed c.args.de.now.decoder.levels c.fields.de.decoder.levels c.fields.remaining i.fault (formats_of c.fields.de.decoder.formats) c.in_ok-field.field-0 c.next_key.new.remaining next.read c.in-Some.field c.in-Some.is g.R.Source.refusals e g.F.FieldList.reports_faults next.settings.levels (always g.F.FieldList.reports_faults c.in_err-skip_item-in-Unknown.ensures.fault))

pub returns-in_err-parts-clause-fault : goal.returns-in_err-parts-clause-fault
returns-in_err-parts-clause-fault g c =
    let passed = err_from_is_err_and c.from_residual-in_err-parts.result c.from_residual-in_err-parts.ensures.1 in
    let old = c.args.de.now.decoder in
    let k = context old.formats g.R.Source.lends in
    let e = c.in_err-parts.field-0.0 in
    let text = fault.names_message (g.F.FieldList.fields k) _ (g.F.FieldList.slots k c.fields.held) (code_of e) (c.in_err-parts.ensures.lacking k) in
    rw (passed.1, passed.2) (always g.F.FieldList.reports_faults
    (said_if_any g.R.Source.refusals (g.R.Source.source old.source) e (any_item old.levels) (Some text.0) text.1 c.in_err-parts.ensures.offset))

pub returns-in_err-end_map-clause-fault : goal.returns-in_err-end_map-clause-fault
returns-in_err-end_map-clause-fault g c =
    let passed = err_from_is_err_and c.from_residual-in_err-end_map.result c.from_residual-in_err-end_map.ensures.1 in
    let old = c.args.de.now.decoder in
    let i = c.fields.invariant in
    let keyed = IsKeyed (keys_of c.args.keys.now) in
    let e = c.in_err-end_map.field-0.0 in
    let nothing = rw c.in_default.is at c.in_ok-field.ensures.remains in
    rw (passed.1, passed.2) (always g.F.FieldList.reports_faults
    (end_told keyed old.levels c.fields.de.decoder.levels c.fields.remaining i.fault (formats_of c.fields.de.decoder.formats) c.in_ok-field.field-0 c.next_key.new.remaining c.in_ok-field.ensures.read g.R.Source.refusals e nothing c.in_err-end_map.ensures.read.1))
