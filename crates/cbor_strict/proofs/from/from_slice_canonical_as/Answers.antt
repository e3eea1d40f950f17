use Rattle.std.proofs.Common.{ℕ, List, take, sym, ap, subst, ◌∙◌, arith, inl, inr, rules}
use Rattle.cbor_model.specs.Raw.{AreBytes}
use Rattle.cbor_io.specs.Error.{offset_of}
use Rattle.cbor_de.specs.Calls.{reports_any}
use Rattle.cbor_de.specs.Whole.{IsOfInput, from_slice_context}
use Rattle.cbor_de.proofs.facts.Readings.{where_map}
use Rattle.cbor_strict.specs.Departure.{IsFirstDeparture, ShowsDeparture}
use Rattle.cbor_strict.specs.Strict.{IsFirstShown}
use Rattle.cbor_strict.proofs.Strict.{from_front, first_of_front, first_of_item}
use Rattle.cbor_strict.proofs.Glue.{where_any, read_canonically, spells_as, canonical_shows_none, nothing_shown, each_behind, read_departs, departs_earlier, fault_earlier}
use Rattle.cbor_strict.proofs.from.from_slice_canonical_as.Goals as goal

-- read, and departs
pub returns-in-Some : goal.returns-in-Some
returns-in-Some g c = record {
  answers = record {
    found = search rules;
    accepted = λ x spelt. absurd (canonical_shows_none c.args.slice.now spelt.tree spelt.spelt c.in-Some.offset c.in-Some.ensures.shows);
    departs = λ x spelt. let bs = c.args.slice.now in
        let fits : AreBytes bs = λ i. omega (arith, c.type_inv.slice i) in
        let first = first_of_item bs spelt.item c.in-Some.offset fits spelt.acceptable.fits spelt.spelled c.in-Some.ensures in
        inr (c.not_canonical.ensures.code, subst (IsFirstDeparture spelt.item) (sym c.not_canonical.ensures.offset) first);
    every = λ v spelt. let bs = c.args.slice.now in
        let fits : AreBytes bs = λ i. omega (arith, c.type_inv.slice i) in
        let first = first_of_item bs spelt.item c.in-Some.offset fits spelt.acceptable.fits spelt.spelled c.in-Some.ensures in
        where_any g.T.Readable.total (inr (c.not_canonical.ensures.code, subst (IsFirstDeparture spelt.item) (sym c.not_canonical.ensures.offset) first));
    refused = let bs = c.args.slice.now in
        let shown = subst (IsFirstShown bs) (sym c.not_canonical.ensures.offset) c.in-Some.ensures in
        where_any g.T.Readable.total (inr (read_departs (g.T.Readable.reads from_slice_context) bs c.in-Ok.value c.not_canonical.result (omega arith) c.in-Ok.ensures.answers.found c.not_canonical.ensures.code shown));
    fault = where_any g.T.Readable.passes_over (inl c.not_canonical.ensures.code);
    own_fault = let t = g.T.Readable in
        where_any (reports_any t.passes_over t.total t.reports_faults) (λ is. absurd (subst IsOfInput c.not_canonical.ensures.code is));
    memory = λ x spelt memory. let clash = sym c.not_canonical.ensures.code ∙ memory.0 in
        absurd cc;
    earliest = inl (c.not_canonical.ensures.code, subst (IsFirstShown c.args.slice.now) (sym c.not_canonical.ensures.offset) c.in-Some.ensures);
    form = inl c.not_canonical.ensures.code;
  };
}

-- read, and departs nowhere
pub returns-in-None : goal.returns-in-None
returns-in-None g c = record {
  answers = record {
    found = read_canonically (g.T.Readable.reads from_slice_context) c.args.slice.now c.in-Ok.value (omega arith) c.in-Ok.ensures.answers.found c.in-None.ensures;
    accepted = λ x spelt. search rules;
    departs = λ x spelt. search rules;
    every = λ v spelt. c.in-Ok.ensures.answers.every v spelt tt;
    refused = search rules;
    fault = search rules;
    own_fault = search rules;
    memory = λ x spelt. tt;
    earliest = search rules;
    form = search rules;
  };
}

-- refused, after a departure
pub returns-in-Some-first_departure : goal.returns-in-Some-first_departure
returns-in-Some-first_departure g c = record {
  answers = record {
    found = search rules;
    accepted = λ x spelt. let bs = c.args.slice.now in
        let j = c.in-Some-first_departure.offset in
        let shown = subst (λ (b : List ℕ). IsFirstShown b j) (c.up_to.ensures ∙ ap (λ (o : ℕ). take o c.args.slice.now) c.offset.ensures.value) c.in-Some-first_departure.ensures in
        absurd (canonical_shows_none bs spelt.tree spelt.spelt j (from_front (offset_of c.in-Err.e) bs j shown.shows));
    departs = λ x spelt. let bs = c.args.slice.now in
        let j = c.in-Some-first_departure.offset in
        let shown = subst (λ (b : List ℕ). IsFirstShown b j) (c.up_to.ensures ∙ ap (λ (o : ℕ). take o c.args.slice.now) c.offset.ensures.value) c.in-Some-first_departure.ensures in
        absurd (nothing_shown bs c.in-Err.e j (c.in-Err.ensures.answers.accepted x spelt tt) shown);
    every = λ v spelt. let bs = c.args.slice.now in
        let j = c.in-Some-first_departure.offset in
        let shown = subst (λ (b : List ℕ). IsFirstShown b j) (c.up_to.ensures ∙ ap (λ (o : ℕ). take o c.args.slice.now) c.offset.ensures.value) c.in-Some-first_departure.ensures in
        where_map g.T.Readable.total (λ memory. absurd (nothing_shown bs c.in-Err.e j memory shown)) (c.in-Err.ensures.answers.every v spelt tt);
    refused = let bs = c.args.slice.now in
        let o = offset_of c.in-Err.e in
        let j = c.in-Some-first_departure.offset in
        let e = c.not_canonical-in-Some-first_departure in
        let shown = subst (λ (b : List ℕ). IsFirstShown b j) (c.up_to.ensures ∙ ap (λ (o : ℕ). take o c.args.slice.now) c.offset.ensures.value) c.in-Some-first_departure.ensures in
        let reported = subst (IsFirstShown (take o bs)) (sym e.ensures.offset) shown in
        where_map g.T.Readable.total (λ first.
        elim first [
          | inl memory ↦ absurd (nothing_shown bs c.in-Err.e j memory shown)
          | inr reports ↦ inr (departs_earlier bs c.in-Err.e e.result reports e.ensures.code reported)
        ]) c.in-Err.ensures.answers.first;
    fault = where_any g.T.Readable.passes_over (inl c.not_canonical-in-Some-first_departure.ensures.code);
    own_fault = let t = g.T.Readable in
        where_any (reports_any t.passes_over t.total t.reports_faults) (λ is. absurd (subst IsOfInput c.not_canonical-in-Some-first_departure.ensures.code is));
    memory = λ x spelt memory. let clash = sym c.not_canonical-in-Some-first_departure.ensures.code ∙ memory.0 in
        absurd cc;
    earliest = let bs = c.args.slice.now in
        let j = c.in-Some-first_departure.offset in
        let e = c.not_canonical-in-Some-first_departure in
        let shown = subst (λ (b : List ℕ). IsFirstShown b j) (c.up_to.ensures ∙ ap (λ (o : ℕ). take o c.args.slice.now) c.offset.ensures.value) c.in-Some-first_departure.ensures in
        inl (e.ensures.code, subst (IsFirstShown bs) (sym e.ensures.offset) (first_of_front (offset_of c.in-Err.e) bs j shown));
    form = inl c.not_canonical-in-Some-first_departure.ensures.code;
  };
}

-- refused, and departs nowhere before
pub returns-in-None-first_departure : goal.returns-in-None-first_departure
returns-in-None-first_departure g c = record {
  answers = record {
    found = search rules;
    accepted = λ x spelt. c.in-Err.ensures.answers.accepted x (spells_as (g.T.Readable.reads from_slice_context) c.args.slice.now x spelt) tt;
    departs = λ x spelt. inl (c.in-Err.ensures.answers.accepted x spelt tt);
    every = λ v spelt. where_map g.T.Readable.total (λ memory. inl memory) (c.in-Err.ensures.answers.every v spelt tt);
    refused = let bs = c.args.slice.now in
        let fits : AreBytes bs = λ i. omega (arith, c.type_inv.slice i) in
        let none = subst (λ (b : List ℕ). (j : ℕ) → ShowsDeparture b j → ⊥) (c.up_to.ensures ∙ ap (λ (o : ℕ). take o c.args.slice.now) c.offset.ensures.value) c.in-None-first_departure.ensures in
        where_map g.T.Readable.total (λ first.
        elim first [
          | inl memory ↦ inl memory
          | inr reports ↦ inr (fault_earlier bs c.in-Err.e fits reports (each_behind bs (offset_of c.in-Err.e) none))
        ]) c.in-Err.ensures.answers.first;
    fault = where_map g.T.Readable.passes_over (λ h. inr h) c.in-Err.ensures.answers.fault;
    own_fault = c.in-Err.ensures.answers.own_fault;
    memory = λ x spelt memory. c.in-Err.ensures.answers.memory x spelt tt memory;
    earliest = let none = subst (λ (b : List ℕ). (j : ℕ) → ShowsDeparture b j → ⊥) (c.up_to.ensures ∙ ap (λ (o : ℕ). take o c.args.slice.now) c.offset.ensures.value) c.in-None-first_departure.ensures in
        inr (each_behind c.args.slice.now (offset_of c.in-Err.e) none);
    form = inr c.in-Err.ensures.form;
  };
}
