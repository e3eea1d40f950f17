use Rattle.std.proofs.Common.{◌∙◌, rules, ◌≡◌, ℕ, Some, Ok, Err, List, ◌∷◌, ◌++◌, [], refl, sym, subst}
use Rattle.std.proofs.lemmas.Result.{err_from_is_err_and}
use Rattle.cbor_io.specs.Error.{code_of, offset_of, IsOutOfMemory}
use Rattle.cbor_decode.specs.Heads.{remaining_of}
use Rattle.cbor_decode.specs.declared.formats.Formats.{Formats}
use Rattle.cbor_decode_as.specs.Arrays.{AreRead}
use Rattle.cbor_decode_as.specs.Takes.{TakesItem, any_item, context, formats_of}
use Rattle.cbor_read.specs.Source.{TookSome}
use Rattle.cbor_decode_as.proofs.facts.Arrays.{EachRead, each_none, each_more, each_all, rest_read, may_follow}
use Rattle.cbor_decode_as.proofs.facts.Arrays.{comes, item_next, item_refused}
use Rattle.cbor_decode_as.proofs.facts.Arrays.{end_twice, loop_begins, loop_goes_on, loop_refused, end_refused, array_takes_to, array_refused, no_array_read}
use Rattle.cbor_de.proofs.parts.Elements.{untold_refused, comes_not, nothing_left}
use Rattle.cbor_decode_as.proofs.facts.Refusals.{refuses_on}
use Rattle.cbor_decode.proofs.facts.Steps.{took_same, took_stays, some_then}
use Rattle.cbor_decode_as.proofs.facts.Readings.{read_gathered, refuses_memory}
use Rattle.cbor_de.proofs.refusals.Forms.{later_in}
use Rattle.cbor_model.specs.Refusal.{end_in_array}
use Rattle.cbor_model.specs.Reader.{next_at}
use Rattle.cbor_decode.specs.Cursor.{behind_next}
use Rattle.cbor_decode.specs.Gives.{Step}
use Rattle.cbor_decode.specs.declared.head.Head.TheVariants as head
use Rattle.cbor_decode.proofs.facts.Steps.{step_then}
use Rattle.cbor_decode_as.specs.Accesses.{IsNext}
use Rattle.cbor_decode_as.proofs.facts.Refusals.{always, reported_why}
use Rattle.cbor_de.specs.Calls.{reports_any}
use Rattle.cbor_de.proofs.parts.ArrayFaults.{StopsArray, array_begins, array_fault, array_goes_on, came_where, next_fault, no_end_fault}
use Rattle.cbor_de.proofs.refusals.Faults.{where_map}
use Rattle.cbor_de.proofs.refusals.OwnFaults.{beginning_fault, item_fault, item_gathered, memory_if_any}
use Rattle.cbor_de.proofs.types.sequences.array_items.Goals as goal
use Rattle.cbor_de.proofs.types.sequences.array_items.Goals.{in-Some, in-None+in-Ok}

pub returns-in_err-access-clause-read : goal.returns-in_err-access-clause-read
returns-in_err-access-clause-read g c =
    let passed = err_from_is_err_and c.from_residual.result c.from_residual.ensures.1 in
    let old = c.args.de.now in
    let reads = g.T.Readable.reads (context old.decoder.formats g.R.Source.lends) in
    rw (passed.1, passed.2) (no_array_read (AreRead reads) g.R.Source.refusals (formats_of old.decoder.formats) old.decoder.levels (g.R.Source.source old.decoder.source) c.in_err-access.field-0.0 (c.in_err-access.ensures.refused _ (search rules)))

pub items-init : goal.items-init
items-init g c =
    let old = c.args.de.now in
    let first = c.in_ok-access.access.de.now in
    let s0 = g.R.Source.source first.decoder.source in
    let reads = g.T.Readable.reads (context old.decoder.formats g.R.Source.lends) in
    let xs = c.new-items.result.items in
    record {
      same = refl;
      outer = refl;
      levels = refl;
      formats = c.in_ok-access.ensures.settings.formats;
      so_far = loop_begins s0 (EachRead reads xs) old.decoder.formats old.decoder.formats first.decoder.levels first.decoder.levels refl refl c.in_ok-access.access.remaining (each_none reads xs c.new-items.ensures.items);
      stops = array_begins old.decoder.levels first.decoder.levels c.in_ok-access.access.remaining (g.R.Source.source old.decoder.source) s0 c.in_ok-access.ensures.opened;
    }

pub items-preserved : goal.items-preserved
items-preserved g c =
    let old = c.args.de.now in
    let first = c.in_ok-access.access.de.now in
    let i = c.items.invariant in
    let now = c.items.access.de.now in
    let mid = c.more.new.self in
    let next = c.match-ready.access.de.now in
    let s0 = g.R.Source.source first.decoder.source in
    let s = g.R.Source.source now.decoder.source in
    let m = g.R.Source.source mid.de.now.decoder.source in
    let t = g.R.Source.source next.decoder.source in
    let reads = λ (f : Formats). g.T.Readable.reads (context f g.R.Source.lends) in
    let xs = c.items.items.items in
    let x = c.match-ready.item in
    let ys = c.push_any.new.items.items in
    let pushed : ys ≡ xs ++ x ∷ [] = search rules in
    let came = comes s m c.items.access.remaining mid.remaining c.in-Ok-true.field-0 c.in-Ok-true.field-0-test c.in-Ok-true.ensures.read in
    let same = c.ready.new.de.decoder in
    let taken : TakesItem g.R.Source.refusals (formats_of mid.de.now.decoder.formats) (reads mid.de.now.decoder.formats) mid.de.now.decoder.levels m t (Ok x) =
    elim c.match-ready.branch [
      | in-Some w ↦ rw (w.access-is, w.item-is) w.in-Some.ensures.read
      | in-None+in-Ok w ↦ rw (w.access-is, w.item-is) (read_gathered m (g.R.Source.source same.source) w.in-None.ensures.read mid.de.now.decoder.formats same.formats w.in-None.ensures.settings.formats g.R.Source.refusals reads mid.de.now.decoder.levels same.levels w.in-None.ensures.settings.levels _ (Ok w.in-Ok.item) w.in-Ok.ensures.read)
    ] in
    let levels : next.decoder.levels ≡ mid.de.now.decoder.levels = elim c.match-ready.branch [ in-Some w ↦ search rules | in-None+in-Ok w ↦ search rules ] in
    let formats : next.decoder.formats ≡ mid.de.now.decoder.formats = elim c.match-ready.branch [ in-Some w ↦ search rules | in-None+in-Ok w ↦ search rules ] in
    let read = item_next s m c.items.access.remaining mid.remaining c.in-Ok-true.field-0 reads now.decoder.formats mid.de.now.decoder.formats now.decoder.levels mid.de.now.decoder.levels c.more.ensures.settings.formats (search rules) t x came taken in
    record {
      same = search rules;
      outer = search rules;
      levels = search rules;
      formats = search rules;
      so_far = loop_goes_on s0 (EachRead (reads old.decoder.formats) xs) old.decoder.formats now.decoder.formats first.decoder.levels now.decoder.levels i.formats i.levels c.in_ok-access.access.remaining
          reads c.items.access.remaining s (EachRead (reads old.decoder.formats) ys) mid.remaining t x
          (λ front r h k. subst (λ (zs : List g.row.T.Denot). EachRead (reads old.decoder.formats) zs (front ++ r ∷ [])) (sym pushed) (each_more (reads old.decoder.formats) xs front x r h k))
          i.so_far read;
      stops = array_goes_on (reads now.decoder.formats) (formats_of now.decoder.formats) old.decoder.levels first.decoder.levels c.items.access.remaining mid.remaining x (g.R.Source.source old.decoder.source) s t i.stops
          (subst (λ (n : ℕ). Step s t (IsNext (reads now.decoder.formats) (formats_of now.decoder.formats) n (remaining_of c.items.access.remaining) (remaining_of mid.remaining) (Some x))) i.levels read);
    }

pub returns-in-Err-clause-read : goal.returns-in-Err-clause-read
returns-in-Err-clause-read g c =
    let old = c.args.de.now in
    let first = c.in_ok-access.access.de.now in
    let i = c.items.invariant in
    let now = c.items.access.de.now in
    let s0 = g.R.Source.source first.decoder.source in
    let s = g.R.Source.source now.decoder.source in
    let reads = λ (f : Formats). g.T.Readable.reads (context f g.R.Source.lends) in
    let xs = c.items.items.items in
    let e = c.refused.result in
    let P = EachRead (reads old.decoder.formats) xs in
    let items = AreRead (reads old.decoder.formats) in
    refuses_on (array_refused s0 P old.decoder.formats now.decoder.formats first.decoder.levels now.decoder.levels i.formats i.levels c.in_ok-access.access.remaining
    items old.decoder.levels (g.R.Source.source old.decoder.source) g.R.Source.refusals (code_of e) (offset_of e) c.in_ok-access.ensures.head
    (loop_refused s0 P old.decoder.formats now.decoder.formats first.decoder.levels now.decoder.levels i.formats i.levels c.in_ok-access.access.remaining
    reads c.items.access.remaining s items g.R.Source.refusals (code_of e) (offset_of e)
    (λ front more xs h means. let w = rest_read (reads old.decoder.formats) front more xs means in may_follow (reads old.decoder.formats) more w.0 w.1)
    i.so_far (untold_refused (reads now.decoder.formats) (formats_of now.decoder.formats) now.decoder.levels c.items.access.remaining g.R.Source.refusals s (code_of e) (offset_of e) (c.in-Err.ensures.read e c.refused.ensures.reports)))) (took_same (search rules))

pub returns-in-Err-deserialize-clause-read : goal.returns-in-Err-deserialize-clause-read
returns-in-Err-deserialize-clause-read g c =
    let old = c.args.de.now in
    let first = c.in_ok-access.access.de.now in
    let i = c.items.invariant in
    let now = c.items.access.de.now in
    let mid = c.more.new.self in
    let s0 = g.R.Source.source first.decoder.source in
    let s = g.R.Source.source now.decoder.source in
    let m = g.R.Source.source mid.de.now.decoder.source in
    let reads = λ (f : Formats). g.T.Readable.reads (context f g.R.Source.lends) in
    let xs = c.items.items.items in
    let e = c.in-Err-deserialize.e in
    let P = EachRead (reads old.decoder.formats) xs in
    let items = AreRead (reads old.decoder.formats) in
    let came = comes s m c.items.access.remaining mid.remaining c.in-Ok-true.field-0 c.in-Ok-true.field-0-test c.in-Ok-true.ensures.read in
    let same = c.ready.new.de.decoder in
    let none = read_gathered m (g.R.Source.source same.source) c.in-None.ensures.read mid.de.now.decoder.formats same.formats c.in-None.ensures.settings.formats g.R.Source.refusals reads mid.de.now.decoder.levels same.levels c.in-None.ensures.settings.levels _ (Err e) c.in-Err-deserialize.ensures.read in
    let refused = item_refused s m c.items.access.remaining mid.remaining c.in-Ok-true.field-0 reads now.decoder.formats mid.de.now.decoder.formats now.decoder.levels mid.de.now.decoder.levels c.more.ensures.settings.formats (search rules)
    g.R.Source.refusals (code_of e) (offset_of e) came none in
    rw c.refuse.ensures.error (refuses_on (array_refused s0 P old.decoder.formats now.decoder.formats first.decoder.levels now.decoder.levels i.formats i.levels c.in_ok-access.access.remaining
    items old.decoder.levels (g.R.Source.source old.decoder.source) g.R.Source.refusals (code_of e) (offset_of e) c.in_ok-access.ensures.head
    (loop_refused s0 P old.decoder.formats now.decoder.formats first.decoder.levels now.decoder.levels i.formats i.levels c.in_ok-access.access.remaining
    reads c.items.access.remaining s items g.R.Source.refusals (code_of e) (offset_of e)
    (λ front more xs h means. let w = rest_read (reads old.decoder.formats) front more xs means in may_follow (reads old.decoder.formats) more w.0 w.1)
    i.so_far refused)) (took_same (search rules)))

pub returns-in_err-end-clause-read : goal.returns-in_err-end-clause-read
returns-in_err-end-clause-read g c =
    let passed = err_from_is_err_and c.from_residual-in_err-end.result c.from_residual-in_err-end.ensures.1 in
    let old = c.args.de.now in
    let first = c.in_ok-access.access.de.now in
    let i = c.items.invariant in
    let now = c.items.access.de.now in
    let next = c.more.new.self in
    let s0 = g.R.Source.source first.decoder.source in
    let t = g.R.Source.source now.decoder.source in
    let u = g.R.Source.source next.de.now.decoder.source in
    let w = g.R.Source.source c.end.new.self.0.decoder.source in
    let reads = λ (f : Formats). g.T.Readable.reads (context f g.R.Source.lends) in
    let items = AreRead (reads old.decoder.formats) in
    let end = comes_not t u c.items.access.remaining next.remaining c.in-Ok-false.field-0 c.in-Ok-false.field-0-test c.in-Ok-false.ensures.read in
    let none = nothing_left c.items.access.remaining next.remaining c.in-Ok-false.field-0 c.in-Ok-false.field-0-test c.in-Ok-false.ensures.counts in
    rw (passed.1, passed.2) (refuses_on (end_refused s0 (EachRead (reads old.decoder.formats) c.items.items.items) old.decoder.formats now.decoder.formats first.decoder.levels now.decoder.levels i.formats i.levels c.in_ok-access.access.remaining
    items old.decoder.levels (g.R.Source.source old.decoder.source) g.R.Source.refusals t u w c.items.access.remaining next.remaining c.in_err-end.field-0.0 none c.in_ok-access.ensures.head i.so_far end c.in_err-end.ensures.read) (took_same (search rules)))

pub returns-clause-read : goal.returns-clause-read
returns-clause-read g c =
    let old = c.args.de.now in
    let first = c.in_ok-access.access.de.now in
    let i = c.items.invariant in
    let now = c.items.access.de.now in
    let next = c.more.new.self in
    let s0 = g.R.Source.source first.decoder.source in
    let t = g.R.Source.source now.decoder.source in
    let u = g.R.Source.source next.de.now.decoder.source in
    let w = g.R.Source.source c.end.new.self.0.decoder.source in
    let reads = λ (f : Formats). g.T.Readable.reads (context f g.R.Source.lends) in
    let xs = c.items.items.items in
    let items = AreRead (reads old.decoder.formats) in
    let end = comes_not t u c.items.access.remaining next.remaining c.in-Ok-false.field-0 c.in-Ok-false.field-0-test c.in-Ok-false.ensures.read in
    let none = nothing_left c.items.access.remaining next.remaining c.in-Ok-false.field-0 c.in-Ok-false.field-0-test c.in-Ok-false.ensures.counts in
    array_takes_to s0 (EachRead (reads old.decoder.formats) xs) old.decoder.formats now.decoder.formats first.decoder.levels now.decoder.levels i.formats i.levels c.in_ok-access.access.remaining
    items old.decoder.levels (g.R.Source.source old.decoder.source) t w _ c.items.access.remaining c.items.items.items (λ front h. each_all (reads old.decoder.formats) xs front h)
    c.in_ok-access.ensures.head i.so_far (end_twice (remaining_of c.items.access.remaining) next.remaining t u w none end c.in_ok-end.ensures.read) (search rules)

pub returns-then-is_err-clause-read : goal.returns-then-is_err-clause-read
returns-then-is_err-clause-read g c =
    let old = c.args.de.now in
    let e = c.from.result in
    let memory : IsOutOfMemory e = search rules in
    let m = g.R.Source.source c.more.new.self.de.now.decoder.source in
    let same = c.ready.new.de.decoder in
    let took : TookSome m (g.R.Source.source c.match-ready.access.de.now.decoder.source) =
    elim c.match-ready.branch [
      | in-Some w ↦ rw w.access-is w.in-Some.ensures.read.took
      | in-None+in-Ok w ↦ rw w.access-is (some_then _ _ _ (took_stays _ _ w.in-None.ensures.read) w.in-Ok.ensures.read.took)
    ] in
    rw c.refuse-then-is_err.ensures.error (refuses_memory g.R.Source.refusals (g.R.Source.source old.decoder.source) (code_of e) (offset_of e) _ memory.0 memory.1
    (some_then _ _ _ c.in_ok-access.ensures.head.took (some_then _ _ _ c.items.invariant.so_far.took (some_then _ _ _ c.in-Ok-true.ensures.read.took (some_then _ _ _ took (took_same (search rules)))))))

pub returns-in-Err-deserialize-clause-form : goal.returns-in-Err-deserialize-clause-form
returns-in-Err-deserialize-clause-form g c =
    let i = c.items.invariant in
    let took = some_then _ _ _ c.in_ok-access.ensures.head.took (some_then _ _ _ i.so_far.took c.in-Ok-true.ensures.read.took) in
    let mid = c.more.new.self.de.now.decoder in
    let same = c.ready.new.de.decoder in
    let form = later_in g.T.Readable.wrong_forms mid.formats same.formats _ _ c.in-Err-deserialize.e c.in-None.ensures.settings.formats (took_stays _ _ c.in-None.ensures.read) c.in-Err-deserialize.ensures.form in
    rw c.refuse.ensures.error (later_in g.T.Readable.wrong_forms c.args.de.now.decoder.formats mid.formats _ _ c.in-Err-deserialize.e (c.more.ensures.settings.formats ∙ i.formats) took form)

-- ---- the fault

pub returns-in_err-access-clause-own_fault : goal.returns-in_err-access-clause-own_fault
returns-in_err-access-clause-own_fault g c =
    let passed = err_from_is_err_and c.from_residual.result c.from_residual.ensures.1 in
    let old = c.args.de.now in
    let t = g.T.Readable in
    rw (passed.1, passed.2) (always (reports_any t.passes_over t.total t.reports_faults) (beginning_fault g.R.Source.refusals (g.R.Source.source old.decoder.source) c.in_err-access.field-0.0 head.Array old.decoder.levels c.in_err-access.ensures.fault))

pub returns-in-Err-clause-own_fault : goal.returns-in-Err-clause-own_fault
returns-in-Err-clause-own_fault g c =
    let old = c.args.de.now.decoder in
    let first = c.in_ok-access.access.de.now.decoder in
    let i = c.items.invariant in
    let now = c.items.access in
    let s = g.R.Source.source now.de.now.decoder.source in
    let t = g.T.Readable in
    let e = c.refused.result in
    let told = reported_why g.R.Source.refusals (λ l. next_at end_in_array (remaining_of now.remaining)) s c.more.new.self.de.now.decoder.refusal c.in-Err.refused e c.refused.ensures.reports c.in-Err.ensures.fault in
    always (reports_any t.passes_over t.total t.reports_faults) (array_fault g.R.Source.refusals e old.levels first.levels now.remaining (g.R.Source.source old.source) s i.stops (next_fault g.R.Source.refusals e first.levels now.remaining s told))

pub returns-in-Err-deserialize-clause-own_fault : goal.returns-in-Err-deserialize-clause-own_fault
returns-in-Err-deserialize-clause-own_fault g c =
    let old = c.args.de.now.decoder in
    let first = c.in_ok-access.access.de.now.decoder in
    let i = c.items.invariant in
    let now = c.items.access in
    let mid = c.more.new.self.de.now.decoder in
    let place = c.ready.new.de.decoder in
    let s = g.R.Source.source now.de.now.decoder.source in
    let m = g.R.Source.source mid.source in
    let p = g.R.Source.source place.source in
    let t = g.T.Readable in
    let b = reports_any t.passes_over t.total t.reports_faults in
    let new = c.more.new.self.remaining in
    let e = c.in-Err-deserialize.e in
    let there = item_fault g.R.Source.refusals p e place.levels (formats_of place.formats) t.passes_over t.total t.reports_faults c.in-Err-deserialize.ensures.fault c.in-Err-deserialize.ensures.own_fault in
    let here = where_map b (item_gathered m p c.in-None.ensures.read g.R.Source.refusals mid.levels place.levels c.in-None.ensures.settings.levels e) there in
    let levels : mid.levels ≡ first.levels = c.more.ensures.settings.levels ∙ i.levels in
    let came = came_where g.R.Source.refusals e first.levels now.remaining s b new m mid.levels levels (comes s m now.remaining new c.in-Ok-true.field-0 c.in-Ok-true.field-0-test c.in-Ok-true.ensures.read) here in
    rw c.refuse.ensures.error (where_map b (array_fault g.R.Source.refusals e old.levels first.levels now.remaining (g.R.Source.source old.source) s i.stops) came)

pub returns-in_err-end-clause-own_fault : goal.returns-in_err-end-clause-own_fault
returns-in_err-end-clause-own_fault g c =
    let passed = err_from_is_err_and c.from_residual-in_err-end.result c.from_residual-in_err-end.ensures.1 in
    let old = c.args.de.now.decoder in
    let first = c.in_ok-access.access.de.now.decoder in
    let i = c.items.invariant in
    let now = c.items.access in
    let next = c.more.new.self in
    let s = g.R.Source.source old.source in
    let m = g.R.Source.source now.de.now.decoder.source in
    let u = g.R.Source.source next.de.now.decoder.source in
    let t = g.T.Readable in
    let none = nothing_left now.remaining next.remaining c.in-Ok-false.field-0 c.in-Ok-false.field-0-test c.in-Ok-false.ensures.counts in
    let step = step_then s m u (StopsArray old.levels first.levels now.remaining) (λ l bs rest. next_at end_in_array (remaining_of now.remaining) bs ≡ Ok (behind_next next.remaining c.in-Ok-false.field-0, rest)) (λ l bs rest. Unit {0}) (λ l bs mid rest so end. tt) i.stops c.in-Ok-false.ensures.read in
    rw (passed.1, passed.2) (always (reports_any t.passes_over t.total t.reports_faults) (no_end_fault g.R.Source.refusals c.in_err-end.field-0.0 old.levels next.remaining s u (λ l bs rest. Unit {0}) none step c.in_err-end.ensures.read.1))

pub returns-then-is_err-clause-own_fault : goal.returns-then-is_err-clause-own_fault
returns-then-is_err-clause-own_fault g c =
    let old = c.args.de.now.decoder in
    let t = g.T.Readable in
    let e = c.from.result in
    let memory : IsOutOfMemory e = search rules in
    rw c.refuse-then-is_err.ensures.error (always (reports_any t.passes_over t.total t.reports_faults) (memory_if_any g.R.Source.refusals (g.R.Source.source old.source) e (any_item old.levels) memory.0 memory.1))
