use Rattle.std.proofs.Common.{rules, ◌≡◌, Option, refl, subst, ◌∙◌}
use Rattle.std.proofs.lemmas.Result.{err_from_is_err_and}
use Rattle.std.specs.BTreeMap.{BTreeMap, insert_entry}
use Rattle.cbor_model.specs.Raw.{RawPairs}
use Rattle.cbor_io.specs.Error.{code_of, offset_of, IsOutOfMemory}
use Rattle.cbor_decode.specs.Gives.{Step}
use Rattle.cbor_decode.specs.Heads.{remaining_of}
use Rattle.cbor_decode.specs.declared.formats.Formats.{Formats}
use Rattle.cbor_decode_as.specs.MapAccesses.{IsKey}
use Rattle.cbor_decode_as.specs.Maps.{AreEntries}
use Rattle.cbor_decode_as.specs.Takes.{context, formats_of}
use Rattle.cbor_decode_as.proofs.facts.Maps.{Made, none_made, made_more, made_all, may_follow_made}
use Rattle.cbor_de.proofs.parts.WholeMaps.{map_begins, map_goes_on, key_lacks, value_lacks, map_takes, map_refused, map_end_refused, map_end_twice, no_map_read}
use Rattle.cbor_decode_as.proofs.facts.Refusals.{refuses_on}
use Rattle.cbor_decode.proofs.facts.Steps.{took_same, some_then}
use Rattle.cbor_decode_as.proofs.facts.Readings.{refuses_memory}
use Rattle.cbor_de.proofs.refusals.Forms.{key_in_map, later_in, of_left, of_right}
use Rattle.cbor_de.specs.Forms.{any_of, key_form}
use Rattle.cbor_decode.specs.declared.head.Head.TheVariants as head
use Rattle.cbor_decode_as.specs.Takes.{ItemFault, any_item}
use Rattle.cbor_decode_as.proofs.facts.Refusals.{always}
use Rattle.cbor_de.specs.Calls.{and_reports, reports_any}
use Rattle.cbor_de.proofs.maps.MapFaults.{end_told, item_passes, key_told, map_behind, pair_goes_on, value_told}
use Rattle.cbor_de.proofs.refusals.OwnFaults.{beginning_fault, first_reports, memory_if_any, other_reports}
use Rattle.cbor_de.proofs.types.maps.BTreeMapDeserialize.deserialize.Goals as goal

pub returns-in_err-access-clause-read : goal.returns-in_err-access-clause-read
returns-in_err-access-clause-read g c =
    let passed = err_from_is_err_and c.from_residual.result c.from_residual.ensures.1 in
    let old = c.args.de.now in
    let keys = g.K.Readable.reads (context old.decoder.formats g.R.Source.lends) in
    let values = g.V.Readable.reads (context old.decoder.formats g.R.Source.lends) in
    rw (passed.1, passed.2) (no_map_read (λ (rs : RawPairs) (m : BTreeMap g.row.K.Denot g.row.V.Denot). AreEntries g.K.Ord.cmp keys values rs m.entries) g.R.Source.refusals (formats_of old.decoder.formats) old.decoder.levels (g.R.Source.source old.decoder.source) c.in_err-access.field-0.0 (c.in_err-access.ensures.refused _ (search rules)))

pub pairs-init : goal.pairs-init
pairs-init g c =
    let old = c.args.de.now in
    let first = c.in_ok-access.access.de.now in
    let s0 = g.R.Source.source first.decoder.source in
    let keys = g.K.Readable.reads (context old.decoder.formats g.R.Source.lends) in
    let values = g.V.Readable.reads (context old.decoder.formats g.R.Source.lends) in
    let es = c.new-map.result.entries in
    record {
      same = refl;
      outer = refl;
      levels = refl;
      formats = c.in_ok-access.ensures.settings.formats;
      due = c.in_ok-access.ensures.due;
      so_far = map_begins s0 (Made keys values g.K.Ord.cmp es) old.decoder.formats first.decoder.levels c.in_ok-access.access.remaining (none_made keys values g.K.Ord.cmp es c.new-map.ensures.empty);
      fault = map_behind old.decoder.levels first.decoder.levels _ _ c.in_ok-access.access.remaining c.in_ok-access.ensures.opened;
    }

pub pairs-preserved : goal.pairs-preserved
pairs-preserved g c =
    let old = c.args.de.now in
    let first = c.in_ok-access.access.de.now in
    let i = c.pairs.invariant in
    let now = c.pairs.access.de.now in
    let next = c.next_key.new.self in
    let done = c.next_value.new.self in
    let s0 = g.R.Source.source first.decoder.source in
    let s = g.R.Source.source now.decoder.source in
    let t = g.R.Source.source next.de.now.decoder.source in
    let u = g.R.Source.source done.de.now.decoder.source in
    let keys = λ (f : Formats). g.K.Readable.reads (context f g.R.Source.lends) in
    let values = λ (f : Formats). g.V.Readable.reads (context f g.R.Source.lends) in
    let es = c.pairs.map.entries in
    let k = c.in-Some.key in
    let v = c.in_ok-value.value in
    let new = c.insert.new.self.entries in
    let put : new ≡ insert_entry g.K.Ord.cmp es k v = search rules in
    let P = Made (keys old.decoder.formats) (values old.decoder.formats) g.K.Ord.cmp es in
    let Q = Made (keys old.decoder.formats) (values old.decoder.formats) g.K.Ord.cmp new in
    let read = subst (λ (o : Option g.row.K.Denot). Step s t (IsKey (keys now.decoder.formats) (formats_of now.decoder.formats) now.decoder.levels (remaining_of c.pairs.access.remaining) (remaining_of next.remaining) o)) c.in-Some.is c.in_ok-key.ensures.read in
    let formats : next.de.now.decoder.formats ≡ old.decoder.formats = c.in_ok-key.ensures.settings.formats ∙ i.formats in
    let levels : next.de.now.decoder.levels ≡ first.decoder.levels = c.in_ok-key.ensures.settings.levels ∙ i.levels in
    let so_far = map_goes_on s0 P old.decoder.formats first.decoder.levels c.in_ok-access.access.remaining
    now.decoder.formats now.decoder.levels i.formats i.levels keys values c.pairs.access.remaining s
    next.remaining t k next.de.now.decoder.formats next.de.now.decoder.levels formats levels
    Q u v (made_more (keys old.decoder.formats) (values old.decoder.formats) g.K.Ord.cmp es new k v put) i.so_far read c.in_ok-value.ensures.read in
    let fault = pair_goes_on (keys now.decoder.formats) old.decoder.levels now.decoder.levels c.pairs.access.remaining i.fault (formats_of now.decoder.formats) c.in_ok-key.field-0 next.remaining c.in_ok-key.ensures.read k c.in-Some.is c.in_ok-key.ensures.settings.levels c.in_ok-value.ensures.settings.levels
    (item_passes (values next.de.now.decoder.formats) (formats_of next.de.now.decoder.formats) next.de.now.decoder.levels v t u c.in_ok-value.ensures.read) in
    record {
      same = search rules;
      outer = search rules;
      levels = search rules;
      formats = search rules;
      due = search rules;
      so_far = rw c.in_ok-value.ensures.remaining so_far;
      fault = rw c.in_ok-value.ensures.remaining fault;
    }

pub returns-in_err-key-clause-read : goal.returns-in_err-key-clause-read
returns-in_err-key-clause-read g c =
    let passed = err_from_is_err_and c.from_residual-in_err-key.result c.from_residual-in_err-key.ensures.1 in
    let old = c.args.de.now in
    let first = c.in_ok-access.access.de.now in
    let i = c.pairs.invariant in
    let now = c.pairs.access.de.now in
    let s0 = g.R.Source.source first.decoder.source in
    let s = g.R.Source.source now.decoder.source in
    let keys = λ (f : Formats). g.K.Readable.reads (context f g.R.Source.lends) in
    let values = λ (f : Formats). g.V.Readable.reads (context f g.R.Source.lends) in
    let es = c.pairs.map.entries in
    let e = c.in_err-key.field-0.0 in
    let P = Made (keys old.decoder.formats) (values old.decoder.formats) g.K.Ord.cmp es in
    let pairs = λ (rs : RawPairs) (m : BTreeMap g.row.K.Denot g.row.V.Denot). AreEntries g.K.Ord.cmp (keys old.decoder.formats) (values old.decoder.formats) rs m.entries in
    rw (passed.1, passed.2) (refuses_on (map_refused s0 P old.decoder.formats first.decoder.levels c.in_ok-access.access.remaining
    pairs old.decoder.levels (g.R.Source.source old.decoder.source) g.R.Source.refusals (code_of e) (offset_of e) c.in_ok-access.ensures.head
    (key_lacks s0 P old.decoder.formats first.decoder.levels c.in_ok-access.access.remaining
    now.decoder.formats now.decoder.levels i.formats i.levels keys values c.pairs.access.remaining s
    pairs g.R.Source.refusals (code_of e) (offset_of e)
    (λ front more m h means. may_follow_made (keys old.decoder.formats) (values old.decoder.formats) g.K.Ord.cmp front more m.entries means)
    i.so_far c.in_err-key.ensures.read)) (took_same (search rules)))

pub returns-in_err-value-clause-read : goal.returns-in_err-value-clause-read
returns-in_err-value-clause-read g c =
    let passed = err_from_is_err_and c.from_residual-in_err-value.result c.from_residual-in_err-value.ensures.1 in
    let old = c.args.de.now in
    let first = c.in_ok-access.access.de.now in
    let i = c.pairs.invariant in
    let now = c.pairs.access.de.now in
    let next = c.next_key.new.self in
    let s0 = g.R.Source.source first.decoder.source in
    let s = g.R.Source.source now.decoder.source in
    let t = g.R.Source.source next.de.now.decoder.source in
    let keys = λ (f : Formats). g.K.Readable.reads (context f g.R.Source.lends) in
    let values = λ (f : Formats). g.V.Readable.reads (context f g.R.Source.lends) in
    let es = c.pairs.map.entries in
    let k = c.in-Some.key in
    let e = c.in_err-value.field-0.0 in
    let P = Made (keys old.decoder.formats) (values old.decoder.formats) g.K.Ord.cmp es in
    let pairs = λ (rs : RawPairs) (m : BTreeMap g.row.K.Denot g.row.V.Denot). AreEntries g.K.Ord.cmp (keys old.decoder.formats) (values old.decoder.formats) rs m.entries in
    let read = subst (λ (o : Option g.row.K.Denot). Step s t (IsKey (keys now.decoder.formats) (formats_of now.decoder.formats) now.decoder.levels (remaining_of c.pairs.access.remaining) (remaining_of next.remaining) o)) c.in-Some.is c.in_ok-key.ensures.read in
    let formats : next.de.now.decoder.formats ≡ old.decoder.formats = c.in_ok-key.ensures.settings.formats ∙ i.formats in
    let levels : next.de.now.decoder.levels ≡ first.decoder.levels = c.in_ok-key.ensures.settings.levels ∙ i.levels in
    rw (passed.1, passed.2) (refuses_on (map_refused s0 P old.decoder.formats first.decoder.levels c.in_ok-access.access.remaining
    pairs old.decoder.levels (g.R.Source.source old.decoder.source) g.R.Source.refusals (code_of e) (offset_of e) c.in_ok-access.ensures.head
    (value_lacks s0 P old.decoder.formats first.decoder.levels c.in_ok-access.access.remaining
    now.decoder.formats now.decoder.levels i.formats i.levels keys values c.pairs.access.remaining s
    next.remaining t k next.de.now.decoder.formats next.de.now.decoder.levels formats levels
    pairs g.R.Source.refusals (code_of e) (offset_of e)
    (λ front more m h means. may_follow_made (keys old.decoder.formats) (values old.decoder.formats) g.K.Ord.cmp front more m.entries means)
    i.so_far read c.in_err-value.ensures.read)) (took_same (search rules)))

pub returns-in_err-end-clause-read : goal.returns-in_err-end-clause-read
returns-in_err-end-clause-read g c =
    let passed = err_from_is_err_and c.from_residual-in_err-end.result c.from_residual-in_err-end.ensures.1 in
    let old = c.args.de.now in
    let first = c.in_ok-access.access.de.now in
    let i = c.pairs.invariant in
    let now = c.pairs.access.de.now in
    let next = c.next_key.new.self in
    let s0 = g.R.Source.source first.decoder.source in
    let t = g.R.Source.source now.decoder.source in
    let u = g.R.Source.source next.de.now.decoder.source in
    let w = g.R.Source.source c.end.new.self.0.decoder.source in
    let keys = λ (f : Formats). g.K.Readable.reads (context f g.R.Source.lends) in
    let values = λ (f : Formats). g.V.Readable.reads (context f g.R.Source.lends) in
    let P = Made (keys old.decoder.formats) (values old.decoder.formats) g.K.Ord.cmp c.pairs.map.entries in
    let pairs = λ (rs : RawPairs) (m : BTreeMap g.row.K.Denot g.row.V.Denot). AreEntries g.K.Ord.cmp (keys old.decoder.formats) (values old.decoder.formats) rs m.entries in
    let end = subst (λ (o : Option g.row.K.Denot). Step t u (IsKey (keys now.decoder.formats) (formats_of now.decoder.formats) now.decoder.levels (remaining_of c.pairs.access.remaining) (remaining_of next.remaining) o)) c.in_default.is c.in_ok-key.ensures.read in
    let none = rw c.in_default.is at c.in_ok-key.ensures.remains in
    rw (passed.1, passed.2) (refuses_on (map_end_refused s0 P old.decoder.formats first.decoder.levels c.in_ok-access.access.remaining
    pairs old.decoder.levels (g.R.Source.source old.decoder.source) g.R.Source.refusals t u w c.pairs.access.remaining next.remaining c.in_err-end.field-0.0 none c.in_ok-access.ensures.head i.so_far end c.in_err-end.ensures.read) (took_same (search rules)))

pub returns-clause-read : goal.returns-clause-read
returns-clause-read g c =
    let old = c.args.de.now in
    let first = c.in_ok-access.access.de.now in
    let i = c.pairs.invariant in
    let now = c.pairs.access.de.now in
    let next = c.next_key.new.self in
    let s0 = g.R.Source.source first.decoder.source in
    let t = g.R.Source.source now.decoder.source in
    let u = g.R.Source.source next.de.now.decoder.source in
    let w = g.R.Source.source c.end.new.self.0.decoder.source in
    let keys = λ (f : Formats). g.K.Readable.reads (context f g.R.Source.lends) in
    let values = λ (f : Formats). g.V.Readable.reads (context f g.R.Source.lends) in
    let es = c.pairs.map.entries in
    let P = Made (keys old.decoder.formats) (values old.decoder.formats) g.K.Ord.cmp es in
    let pairs = λ (rs : RawPairs) (m : BTreeMap g.row.K.Denot g.row.V.Denot). AreEntries g.K.Ord.cmp (keys old.decoder.formats) (values old.decoder.formats) rs m.entries in
    let end = subst (λ (o : Option g.row.K.Denot). Step t u (IsKey (keys now.decoder.formats) (formats_of now.decoder.formats) now.decoder.levels (remaining_of c.pairs.access.remaining) (remaining_of next.remaining) o)) c.in_default.is c.in_ok-key.ensures.read in
    let none = rw c.in_default.is at c.in_ok-key.ensures.remains in
    map_takes s0 P old.decoder.formats first.decoder.levels c.in_ok-access.access.remaining
    pairs old.decoder.levels (g.R.Source.source old.decoder.source) t w _ c.pairs.access.remaining c.pairs.map (λ front h. made_all (keys old.decoder.formats) (values old.decoder.formats) g.K.Ord.cmp es front h)
    c.in_ok-access.ensures.head i.so_far (map_end_twice (remaining_of c.pairs.access.remaining) next.remaining t u w none end c.in_ok-end.ensures.read) (search rules)

pub returns-then-is_err-clause-read : goal.returns-then-is_err-clause-read
returns-then-is_err-clause-read g c =
    let old = c.args.de.now in
    let e = c.from.result in
    let memory : IsOutOfMemory e = search rules in
    rw c.refuse.ensures.error (refuses_memory g.R.Source.refusals (g.R.Source.source old.decoder.source) (code_of e) (offset_of e) _ memory.0 memory.1
    (some_then _ _ _ c.in_ok-access.ensures.head.took (some_then _ _ _ c.pairs.invariant.so_far.took (some_then _ _ _ c.in_ok-key.ensures.read.took (some_then _ _ _ c.in_ok-value.ensures.read.took (took_same (search rules)))))))

-- ---- a wrong form

pub returns-in_err-key-clause-form : goal.returns-in_err-key-clause-form
returns-in_err-key-clause-form g c =
    let passed = err_from_is_err_and c.from_residual-in_err-key.result c.from_residual-in_err-key.ensures.1 in
    let i = c.pairs.invariant in
    let e = c.in_err-key.field-0.0 in
    let old = c.args.de.now in
    let first = c.in_ok-access.access.de.now in
    let made = Made (g.K.Readable.reads (context old.decoder.formats g.R.Source.lends)) (g.V.Readable.reads (context old.decoder.formats g.R.Source.lends)) g.K.Ord.cmp c.pairs.map.entries in
    rw (passed.1, passed.2) (of_left (any_of key_form g.K.Readable.wrong_forms) g.V.Readable.wrong_forms _ _ e
    (key_in_map made old.decoder.formats old.decoder.levels first.decoder.levels c.in_ok-access.access.remaining c.pairs.access.remaining _ _ _ c.in_ok-access.ensures.head i.so_far g.K.Readable.wrong_forms c.pairs.access.de.now.decoder.formats e i.formats c.in_err-key.ensures.form))

pub returns-in_err-value-clause-form : goal.returns-in_err-value-clause-form
returns-in_err-value-clause-form g c =
    let passed = err_from_is_err_and c.from_residual-in_err-value.result c.from_residual-in_err-value.ensures.1 in
    let i = c.pairs.invariant in
    let e = c.in_err-value.field-0.0 in
    let took = some_then _ _ _ c.in_ok-access.ensures.head.took (some_then _ _ _ i.so_far.took c.in_ok-key.ensures.read.took) in
    rw (passed.1, passed.2) (of_right (any_of key_form g.K.Readable.wrong_forms) g.V.Readable.wrong_forms _ _ e (later_in g.V.Readable.wrong_forms c.args.de.now.decoder.formats c.next_key.new.self.de.now.decoder.formats _ _ e (c.in_ok-key.ensures.settings.formats ∙ i.formats) took c.in_err-value.ensures.form))

-- ---- the fault

pub returns-in_err-access-clause-own_fault : goal.returns-in_err-access-clause-own_fault
returns-in_err-access-clause-own_fault g c =
    let passed = err_from_is_err_and c.from_residual.result c.from_residual.ensures.1 in
    let old = c.args.de.now.decoder in
    let a = reports_any g.K.Readable.passes_over g.K.Readable.total g.K.Readable.reports_faults in
    let b = reports_any g.V.Readable.passes_over g.V.Readable.total g.V.Readable.reports_faults in
    rw (passed.1, passed.2) (always (and_reports a b) (beginning_fault g.R.Source.refusals (g.R.Source.source old.source) c.in_err-access.field-0.0 head.Map old.levels c.in_err-access.ensures.fault))

pub returns-in_err-key-clause-own_fault : goal.returns-in_err-key-clause-own_fault
returns-in_err-key-clause-own_fault g c =
    let passed = err_from_is_err_and c.from_residual-in_err-key.result c.from_residual-in_err-key.ensures.1 in
    let old = c.args.de.now.decoder in
    let now = c.pairs.access.de.now.decoder in
    let s = g.R.Source.source old.source in
    let e = c.in_err-key.field-0.0 in
    let a = reports_any g.K.Readable.passes_over g.K.Readable.total g.K.Readable.reports_faults in
    let b = reports_any g.V.Readable.passes_over g.V.Readable.total g.V.Readable.reports_faults in
    rw (passed.1, passed.2) (first_reports (ItemFault g.R.Source.refusals old.levels s e) a b
    (key_told old.levels now.levels g.R.Source.refusals e s (g.R.Source.source now.source) c.pairs.access.remaining c.pairs.invariant.fault (formats_of now.formats) a c.in_err-key.ensures.own_fault))

pub returns-in_err-value-clause-own_fault : goal.returns-in_err-value-clause-own_fault
returns-in_err-value-clause-own_fault g c =
    let passed = err_from_is_err_and c.from_residual-in_err-value.result c.from_residual-in_err-value.ensures.1 in
    let old = c.args.de.now in
    let i = c.pairs.invariant in
    let now = c.pairs.access.de.now in
    let next = c.next_key.new.self in
    let e = c.in_err-value.field-0.0 in
    let keys = λ (f : Formats). g.K.Readable.reads (context f g.R.Source.lends) in
    let a = reports_any g.K.Readable.passes_over g.K.Readable.total g.K.Readable.reports_faults in
    let b = reports_any g.V.Readable.passes_over g.V.Readable.total g.V.Readable.reports_faults in
    rw (passed.1, passed.2) (other_reports (ItemFault g.R.Source.refusals old.decoder.levels (g.R.Source.source old.decoder.source) e) a b (value_told (keys now.decoder.formats) old.decoder.levels now.decoder.levels c.pairs.access.remaining i.fault (formats_of now.decoder.formats) c.in_ok-key.field-0 next.remaining c.in_ok-key.ensures.read c.in-Some.key c.in-Some.is g.R.Source.refusals e b c.in_ok-key.ensures.settings.levels c.in_err-value.ensures.own_fault))

pub returns-in_err-end-clause-own_fault : goal.returns-in_err-end-clause-own_fault
returns-in_err-end-clause-own_fault g c =
    let passed = err_from_is_err_and c.from_residual-in_err-end.result c.from_residual-in_err-end.ensures.1 in
    let old = c.args.de.now in
    let i = c.pairs.invariant in
    let now = c.pairs.access.de.now in
    let next = c.next_key.new.self in
    let e = c.in_err-end.field-0.0 in
    let keys = λ (f : Formats). g.K.Readable.reads (context f g.R.Source.lends) in
    let none = rw c.in_default.is at c.in_ok-key.ensures.remains in
    let a = reports_any g.K.Readable.passes_over g.K.Readable.total g.K.Readable.reports_faults in
    let b = reports_any g.V.Readable.passes_over g.V.Readable.total g.V.Readable.reports_faults in
    rw (passed.1, passed.2) (always (and_reports a b) (end_told (keys now.decoder.formats) old.decoder.levels now.decoder.levels c.pairs.access.remaining i.fault (formats_of now.decoder.formats) c.in_ok-key.field-0 next.remaining c.in_ok-key.ensures.read g.R.Source.refusals e none c.in_err-end.ensures.read.1))

pub returns-then-is_err-clause-own_fault : goal.returns-then-is_err-clause-own_fault
returns-then-is_err-clause-own_fault g c =
    let old = c.args.de.now.decoder in
    let e = c.from.result in
    let memory : IsOutOfMemory e = search rules in
    let a = reports_any g.K.Readable.passes_over g.K.Readable.total g.K.Readable.reports_faults in
    let b = reports_any g.V.Readable.passes_over g.V.Readable.total g.V.Readable.reports_faults in
    rw c.refuse.ensures.error (always (and_reports a b) (memory_if_any g.R.Source.refusals (g.R.Source.source old.source) e (any_item old.levels) memory.0 memory.1))
