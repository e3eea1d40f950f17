use Rattle.std.proofs.Common.{rules, ◌≡◌, ◌<◌, ℕ, refl, List, ◌∷◌, ◌++◌, [], length, sym, subst, arith}
use Rattle.std.proofs.lemmas.Result.{err_from_is_err_and}
use Rattle.cbor_io.specs.Error.{code_of, offset_of, IsOutOfMemory}
use Rattle.cbor_decode.specs.declared.formats.Formats.{Formats}
use Rattle.cbor_decode_as.specs.Arrays.{AreExactly}
use Rattle.cbor_decode_as.specs.Takes.{any_item, context, formats_of}
use Rattle.cbor_decode_as.proofs.facts.Arrays.{EachRead, each_none, loop_begins, each_more, each_all, each_length, rest_read, must_follow, none_of_none}
use Rattle.cbor_decode_as.proofs.facts.Arrays.{end_step, end_lacks, part_goes_on, part_lacks, array_takes_to, array_refused, no_array_read}
use Rattle.cbor_decode_as.proofs.facts.Refusals.{refuses_on}
use Rattle.cbor_decode.proofs.facts.Steps.{took_same, some_then}
use Rattle.cbor_decode_as.proofs.facts.Readings.{refuses_memory}
use Rattle.cbor_de.proofs.refusals.Forms.{later_in}
use Rattle.cbor_decode.specs.Gives.{Step}
use Rattle.cbor_decode.specs.Heads.{remaining_of}
use Rattle.cbor_decode.specs.declared.head.Head.TheVariants as head
use Rattle.cbor_decode_as.specs.Accesses.{IsNextItem}
use Rattle.cbor_decode_as.proofs.facts.Refusals.{always}
use Rattle.cbor_de.specs.Calls.{reports_any}
use Rattle.cbor_de.specs.ItemLists.{ItemsFault}
use Rattle.cbor_de.proofs.parts.ArrayFaults.{array_begins, array_fault, array_goes_on, end_fault}
use Rattle.cbor_de.proofs.refusals.Faults.{where_map}
use Rattle.cbor_de.proofs.refusals.OwnFaults.{beginning_fault, memory_if_any}
use Rattle.cbor_de.proofs.types.sequences.exactly.Goals as goal

pub returns-in_err-access-clause-read : goal.returns-in_err-access-clause-read
returns-in_err-access-clause-read g c =
    let passed = err_from_is_err_and c.from_residual.result c.from_residual.ensures.1 in
    let old = c.args.de.now in
    let reads = g.T.Readable.reads (context old.decoder.formats g.R.Source.lends) in
    rw (passed.1, passed.2) (no_array_read (AreExactly reads c.args.n) g.R.Source.refusals (formats_of old.decoder.formats) old.decoder.levels (g.R.Source.source old.decoder.source) c.in_err-access.field-0.0 (c.in_err-access.ensures.refused _ (search rules)))

pub items-init : goal.items-init
items-init g c =
    let old = c.args.de.now in
    let first = c.in_ok-access.access.de.now in
    let s0 = g.R.Source.source first.decoder.source in
    let reads = g.T.Readable.reads (context old.decoder.formats g.R.Source.lends) in
    let xs = c.new-items.result.items in
    record {
      same = refl;
      few = search rules;
      outer = refl;
      levels = refl;
      formats = c.in_ok-access.ensures.settings.formats;
      so_far = loop_begins s0 (EachRead reads xs) old.decoder.formats old.decoder.formats first.decoder.levels first.decoder.levels refl refl c.in_ok-access.access.remaining (each_none reads xs c.new-items.ensures.items);
      stops = array_begins old.decoder.levels first.decoder.levels c.in_ok-access.access.remaining (g.R.Source.source old.decoder.source) s0 c.in_ok-access.ensures.opened;
    }

pub items-preserved : goal.items-preserved
items-preserved g c =
    let old = c.args.de.now in
    let first = c.in_ok-access.access.de.now in
    let i = c.items.invariant in
    let now = c.items.access.de.now in
    let next = c.part.new.self in
    let s0 = g.R.Source.source first.decoder.source in
    let s = g.R.Source.source now.decoder.source in
    let t = g.R.Source.source next.de.now.decoder.source in
    let reads = λ (f : Formats). g.T.Readable.reads (context f g.R.Source.lends) in
    let xs = c.items.items.items in
    let x = c.in_ok-item.item in
    let ys = c.push.new.self.items in
    let pushed : ys ≡ xs ++ x ∷ [] = search rules in
    record {
      same = search rules;
      few = search rules;
      outer = search rules;
      levels = search rules;
      formats = search rules;
      so_far = part_goes_on s0 (EachRead (reads old.decoder.formats) xs) old.decoder.formats now.decoder.formats first.decoder.levels now.decoder.levels i.formats i.levels c.in_ok-access.access.remaining
          reads c.items.access.remaining s (EachRead (reads old.decoder.formats) ys) next.remaining t x
          (λ front r h k. subst (λ (zs : List g.row.T.Denot). EachRead (reads old.decoder.formats) zs (front ++ r ∷ [])) (sym pushed) (each_more (reads old.decoder.formats) xs front x r h k))
          i.so_far c.in_ok-item.ensures.read;
      stops = array_goes_on (reads now.decoder.formats) (formats_of now.decoder.formats) old.decoder.levels first.decoder.levels c.items.access.remaining next.remaining x (g.R.Source.source old.decoder.source) s t i.stops
          (subst (λ (n : ℕ). Step s t (IsNextItem (reads now.decoder.formats) (formats_of now.decoder.formats) n (remaining_of c.items.access.remaining) (remaining_of next.remaining) x)) i.levels c.in_ok-item.ensures.read);
    }

pub returns-in_err-item-clause-read : goal.returns-in_err-item-clause-read
returns-in_err-item-clause-read g c =
    let passed = err_from_is_err_and c.from_residual-in_err-item.result c.from_residual-in_err-item.ensures.1 in
    let old = c.args.de.now in
    let first = c.in_ok-access.access.de.now in
    let i = c.items.invariant in
    let now = c.items.access.de.now in
    let s0 = g.R.Source.source first.decoder.source in
    let s = g.R.Source.source now.decoder.source in
    let reads = λ (f : Formats). g.T.Readable.reads (context f g.R.Source.lends) in
    let xs = c.items.items.items in
    let fewer : length xs < c.args.n = search rules in
    let e = c.in_err-item.field-0.0 in
    let P = EachRead (reads old.decoder.formats) xs in
    let items = AreExactly (reads old.decoder.formats) c.args.n in
    rw (passed.1, passed.2) (refuses_on (array_refused s0 P old.decoder.formats now.decoder.formats first.decoder.levels now.decoder.levels i.formats i.levels c.in_ok-access.access.remaining
    items old.decoder.levels (g.R.Source.source old.decoder.source) g.R.Source.refusals (code_of e) (offset_of e) c.in_ok-access.ensures.head
    (part_lacks s0 P old.decoder.formats now.decoder.formats first.decoder.levels now.decoder.levels i.formats i.levels c.in_ok-access.access.remaining
    reads c.items.access.remaining s items g.R.Source.refusals (code_of e) (offset_of e)
    (λ front more v h means.
    let w = rest_read (reads old.decoder.formats) front more v means.0 in
    must_follow (reads old.decoder.formats) more w.0 w.1 (omega (arith, w.2, means.1, each_length (reads old.decoder.formats) xs front h, fewer)))
    i.so_far c.in_err-item.ensures.read)) (took_same (search rules)))

pub returns-in_err-end-clause-read : goal.returns-in_err-end-clause-read
returns-in_err-end-clause-read g c =
    let passed = err_from_is_err_and c.from_residual-in_err-end.result c.from_residual-in_err-end.ensures.1 in
    let old = c.args.de.now in
    let first = c.in_ok-access.access.de.now in
    let i = c.items.invariant in
    let now = c.items.access.de.now in
    let s0 = g.R.Source.source first.decoder.source in
    let s = g.R.Source.source now.decoder.source in
    let w = g.R.Source.source c.end.new.self.0.decoder.source in
    let reads = λ (f : Formats). g.T.Readable.reads (context f g.R.Source.lends) in
    let xs = c.items.items.items in
    let all : length xs ≡ c.args.n = search rules in
    let e = c.in_err-end.field-0.0 in
    let P = EachRead (reads old.decoder.formats) xs in
    let items = AreExactly (reads old.decoder.formats) c.args.n in
    rw (passed.1, passed.2) (refuses_on (array_refused s0 P old.decoder.formats now.decoder.formats first.decoder.levels now.decoder.levels i.formats i.levels c.in_ok-access.access.remaining
    items old.decoder.levels (g.R.Source.source old.decoder.source) g.R.Source.refusals (code_of e) (offset_of e) c.in_ok-access.ensures.head
    (end_lacks s0 P old.decoder.formats now.decoder.formats first.decoder.levels now.decoder.levels i.formats i.levels c.in_ok-access.access.remaining
    items g.R.Source.refusals c.items.access.remaining s w e
    (λ front more v h means.
    let z = rest_read (reads old.decoder.formats) front more v means.0 in
    none_of_none (reads old.decoder.formats) more z.0 z.1 (omega (arith, z.2, means.1, each_length (reads old.decoder.formats) xs front h, all)))
    i.so_far c.in_err-end.ensures.read)) (took_same (search rules)))

pub returns-clause-read : goal.returns-clause-read
returns-clause-read g c =
    let old = c.args.de.now in
    let first = c.in_ok-access.access.de.now in
    let i = c.items.invariant in
    let now = c.items.access.de.now in
    let s0 = g.R.Source.source first.decoder.source in
    let t = g.R.Source.source now.decoder.source in
    let w = g.R.Source.source c.end.new.self.0.decoder.source in
    let reads = λ (f : Formats). g.T.Readable.reads (context f g.R.Source.lends) in
    let xs = c.items.items.items in
    let all : length xs ≡ c.args.n = search rules in
    let items = AreExactly (reads old.decoder.formats) c.args.n in
    array_takes_to s0 (EachRead (reads old.decoder.formats) xs) old.decoder.formats now.decoder.formats first.decoder.levels now.decoder.levels i.formats i.levels c.in_ok-access.access.remaining
    items old.decoder.levels (g.R.Source.source old.decoder.source) t w _ c.items.access.remaining xs (λ front h. (each_all (reads old.decoder.formats) xs front h, all))
    c.in_ok-access.ensures.head i.so_far (end_step c.items.access.remaining t w c.in_ok-end.ensures.read) (search rules)

pub returns-then-is_err-clause-read : goal.returns-then-is_err-clause-read
returns-then-is_err-clause-read g c =
    let old = c.args.de.now in
    let e = c.from.result in
    let memory : IsOutOfMemory e = search rules in
    rw c.refuse.ensures.error (refuses_memory g.R.Source.refusals (g.R.Source.source old.decoder.source) (code_of e) (offset_of e) _ memory.0 memory.1
    (some_then _ _ _ c.in_ok-access.ensures.head.took (some_then _ _ _ c.items.invariant.so_far.took (some_then _ _ _ c.in_ok-item.ensures.read.took (took_same (search rules))))))

pub returns-in_err-item-clause-form : goal.returns-in_err-item-clause-form
returns-in_err-item-clause-form g c =
    let passed = err_from_is_err_and c.from_residual-in_err-item.result c.from_residual-in_err-item.ensures.1 in
    let i = c.items.invariant in
    rw (passed.1, passed.2) (later_in g.T.Readable.wrong_forms c.args.de.now.decoder.formats c.items.access.de.now.decoder.formats _ _ c.in_err-item.field-0.0 i.formats (some_then _ _ _ c.in_ok-access.ensures.head.took i.so_far.took) c.in_err-item.ensures.form)

-- ---- the fault

pub returns-in_err-access-clause-own_fault : goal.returns-in_err-access-clause-own_fault
returns-in_err-access-clause-own_fault g c =
    let passed = err_from_is_err_and c.from_residual.result c.from_residual.ensures.1 in
    let old = c.args.de.now in
    let t = g.T.Readable in
    rw (passed.1, passed.2) (always (reports_any t.passes_over t.total t.reports_faults) (beginning_fault g.R.Source.refusals (g.R.Source.source old.decoder.source) c.in_err-access.field-0.0 head.Array old.decoder.levels c.in_err-access.ensures.fault))

pub returns-in_err-item-clause-own_fault : goal.returns-in_err-item-clause-own_fault
returns-in_err-item-clause-own_fault g c =
    let passed = err_from_is_err_and c.from_residual-in_err-item.result c.from_residual-in_err-item.ensures.1 in
    let old = c.args.de.now.decoder in
    let first = c.in_ok-access.access.de.now.decoder in
    let i = c.items.invariant in
    let now = c.items.access in
    let s = g.R.Source.source now.de.now.decoder.source in
    let t = g.T.Readable in
    let e = c.in_err-item.field-0.0 in
    rw (passed.1, passed.2) (where_map (reports_any t.passes_over t.total t.reports_faults) (λ h.
    array_fault g.R.Source.refusals e old.levels first.levels now.remaining (g.R.Source.source old.source) s i.stops (subst (λ (n : ℕ). ItemsFault g.R.Source.refusals n now.remaining s e) i.levels h)) c.in_err-item.ensures.own_fault)

pub returns-in_err-end-clause-own_fault : goal.returns-in_err-end-clause-own_fault
returns-in_err-end-clause-own_fault g c =
    let passed = err_from_is_err_and c.from_residual-in_err-end.result c.from_residual-in_err-end.ensures.1 in
    let old = c.args.de.now.decoder in
    let first = c.in_ok-access.access.de.now.decoder in
    let now = c.items.access in
    let s = g.R.Source.source now.de.now.decoder.source in
    let t = g.T.Readable in
    let e = c.in_err-end.field-0.0 in
    rw (passed.1, passed.2) (always (reports_any t.passes_over t.total t.reports_faults)
    (array_fault g.R.Source.refusals e old.levels first.levels now.remaining (g.R.Source.source old.source) s c.items.invariant.stops (end_fault g.R.Source.refusals e first.levels now.remaining s c.in_err-end.ensures.read.1)))

pub returns-then-is_err-clause-own_fault : goal.returns-then-is_err-clause-own_fault
returns-then-is_err-clause-own_fault g c =
    let old = c.args.de.now.decoder in
    let t = g.T.Readable in
    let e = c.from.result in
    let memory : IsOutOfMemory e = search rules in
    rw c.refuse.ensures.error (always (reports_any t.passes_over t.total t.reports_faults) (memory_if_any g.R.Source.refusals (g.R.Source.source old.source) e (any_item old.levels) memory.0 memory.1))
