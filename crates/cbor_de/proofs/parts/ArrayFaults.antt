-- The fault of an array whose items are read one after the other, whatever formats their keys are of.
use Rattle.std.proofs.Common.{◌≡◌, ◌==◌, ◌+◌, ◌<◌, inl, inr, ◌∙◌, ℕ, zero, suc, Bool, true, false, cond, List, [], ◌∷◌, length, Some, Result, Ok, Err, IfErr, refl, sym, ap, subst, arith}
use Rattle.cbor_model.specs.Formats.{Formats, all_formats}
use Rattle.cbor_model.specs.Head.{HeadWidth}
use Rattle.cbor_model.specs.Raw.{Raw, Raws, RawPairs}
use Rattle.cbor_model.specs.Value.{value}
use Rattle.cbor_model.specs.Refusal.{end_in_array, trailing_data}
use Rattle.cbor_model.specs.Reader.{Fault, Reads, Reading, before, array_at, inside, item_at, items_of, next_at, parts_by, tag_at}
use Rattle.cbor_model.specs.Reader as reader
use Rattle.cbor_model.proofs.facts.Reader.{ok_is, next_taken, parts_by-fuel, taken}
use Rattle.cbor_io.specs.declared.error.Error.{Error}
use Rattle.cbor_io.specs.declared.read_error.ReadErrorCode.{ReadErrorCode}
use Rattle.cbor_read.specs.Source.{Input}
use Rattle.cbor_decode.specs.Cursor.{ended_at}
use Rattle.cbor_decode.specs.Gives.{Limits, Step}
use Rattle.cbor_decode.specs.Heads.{behind_head, opening_at, remaining_of}
use Rattle.cbor_decode.specs.declared.cursor.Remaining.{Remaining}
use Rattle.cbor_decode.specs.declared.cursor.Remaining.TheVariants.{Counted}
use Rattle.cbor_decode.specs.declared.head.Head.{Head}
use Rattle.cbor_decode.specs.declared.head.Head.TheVariants as head
use Rattle.cbor_decode.proofs.facts.Heads.{item_opened}
use Rattle.cbor_decode.proofs.facts.Readings.{along, value_seen}
use Rattle.cbor_decode.proofs.facts.Steps.{step_map, step_then}
use Rattle.cbor_decode_as.specs.Accesses.{IsNextItem, items_at}
use Rattle.cbor_decode_as.specs.Collections.{TakesEndOf}
use Rattle.cbor_decode_as.specs.Begins.{Begins}
use Rattle.cbor_decode_as.specs.TaggedHeads.{opened_at, opened_inside}
use Rattle.cbor_decode_as.specs.Takes.{ItemFault, ReportsFault, WhereTotal, any_item, raws}
use Rattle.cbor_decode_as.proofs.facts.Readings.{any_read}
use Rattle.cbor_decode_as.proofs.facts.TaggedHeads.{opened_here, opened_in_tag, opened_stops}
use Rattle.cbor_de.specs.ItemLists.{ItemsFault}
use Rattle.cbor_de.proofs.refusals.Faults.{Seen, fault_of, seen_of, where_map}
use Rattle.cbor_de.proofs.refusals.OwnFaults.{IsTold, if_any_map, if_any_then, if_told_map, reported_if_any}
use Rattle.cbor_de.proofs.taken.HeadsTaken.{fault_read, tag_or_other}
use Rattle.cbor_decode.specs.declared.cursor.Collection.TheVariants as collection

-- ---- an item, whatever formats its keys are of

module _ (l : Limits) (levels : ℕ) (bs : List ℕ) where
  abbrev any_raw : Reads Raw
  any_raw = item_at (raws all_formats l) levels bs

  seen : any_item levels l bs ≡ along value any_raw
  seen = value_seen all_formats l levels bs

  -- which is read with keys of some formats
  raw_read : (f : Formats) (rest : List ℕ) (r : Raw) → item_at (raws f l) levels bs ≡ Ok (r, rest) → Seen any_raw (value r) rest
  raw_read f rest r is = seen_of any_raw (value r) rest (sym seen ∙ any_read f l levels bs rest r is)

  -- what stops it as a value stops it as it is encoded, and the other way
  raw_stops : (d : Fault) → any_item levels l bs ≡ Err d → any_raw ≡ Err d
  raw_stops d is = fault_of any_raw d (sym seen ∙ is)

  value_stops : (d : Fault) → any_raw ≡ Err d → any_item levels l bs ≡ Err d
  value_stops d is = seen ∙ ap (along value) is

-- ---- the items that remain

module _ (l : Limits) (levels : ℕ) where
  abbrev m : Reading Raw Raws RawPairs
  m = raws all_formats l

  abbrev items : reader.Remaining → List ℕ → Reads Raws
  items r bs = items_at all_formats l levels r bs

  -- it can't be told whether an item comes
  next_stops : (r : reader.Remaining) (bs : List ℕ) (d : Fault) → next_at end_in_array r bs ≡ Err d → items r bs ≡ Err d
  unfolding parts_by
  next_stops r bs d is = rw is refl

  -- the item that comes is none
  item_stops : (r behind : reader.Remaining) (bs start : List ℕ) (d : Fault) → next_at end_in_array r bs ≡ Ok (Some behind, start) → item_at m levels start ≡ Err d → items r bs ≡ Err d
  unfolding parts_by
  item_stops r behind bs start d next is = rw (next, is) refl

  -- what follows it
  others_stop : (r behind : reader.Remaining) (bs start rest : List ℕ) (q : Raw) (d : Fault) → next_at end_in_array r bs ≡ Ok (Some behind, start) → item_at m levels start ≡ Ok (q, rest) → items behind rest ≡ Err d → items r bs ≡ Err d
  unfolding parts_by
  others_stop r behind bs start rest q d next is stops =
      let shorter : length rest < length bs = omega (arith, taken m levels start (q, rest) is, next_taken end_in_array r bs (Some behind, start) next) in
      let fuel = parts_by-fuel (items_of m (item_at m levels)) (taken m levels) (length bs) (suc (length rest)) behind rest shorter (omega arith) in
      rw (next, is, fuel ∙ stops) refl

  fault_is : {A : Type 0} (x y : Fault) → ◌≡◌ {A = Reads A} (Err x) (Err y) → x ≡ y
  fault_is x y e = cc

  trails : {A : Type 0} (bs : List ℕ) (d : Fault) → IsTold d → ◌≡◌ {A = Reads A} (Err (before trailing_data bs)) (Err d) → ⊥
  trails {A = A} bs d told is = told.1 (ap (λ (f : Fault). f.why) (sym (fault_is {A = A} (before trailing_data bs) d is)))

  -- or the end isn't there
  end_stops : (r : reader.Remaining) (bs : List ℕ) (d : Fault) → IsTold d → ended_at end_in_array r bs ≡ Err d → items r bs ≡ Err d
  unfolding ended_at next_at
  end_stops (reader.counted zero) bs d told is = absurd cc
  end_stops (reader.counted (suc n)) bs d told is = absurd (trails bs d told is)
  end_stops reader.to_break [] d told is = next_stops reader.to_break [] d (ap (λ (f : Fault). Err f) (fault_is _ d is))
  end_stops reader.to_break (b ∷ bs) d told is = absurd (at_break (b == 255) is)
    where
      at_break : (c : Bool) → cond {A = Reads (Unit {0})} c (Ok (tt, bs)) (Err (before trailing_data bs)) ≡ Err d → ⊥
      at_break true e = absurd cc
      at_break false e = trails bs d told e

-- nothing remains
none_remains : (new : Remaining) (bs : List ℕ) (d : Fault) → new ≡ Counted 0 → ended_at end_in_array (remaining_of new) bs ≡ Err d → ⊥
unfolding ended_at
none_remains new bs d none is =
    let here : ended_at end_in_array (reader.counted 0) bs ≡ Err d = subst (λ (r : Remaining). ended_at end_in_array (remaining_of r) bs ≡ Err d) none is in
    absurd cc

-- ---- the head

module _ (l : Limits) (left : ℕ) (r : Remaining) (rest : List ℕ) (d : Fault) (stops : items_at all_formats l left (remaining_of r) rest ≡ Err d) where
  abbrev all : Reading Raw Raws RawPairs
  all = raws all_formats l

  abbrev Found : ℕ → Head → List ℕ → Type 0
  Found levels h mid = ◌≡◌ {A = (ℕ × Head) × List ℕ} ((levels, h), mid) ((left + 1, head.Array r), rest)

  one_in : inside all (left + 1) ≡ Some (item_at all left)
  one_in = ap (λ (n : ℕ). inside all n) next
    where
      next : left + 1 ≡ suc left
      next = omega arith

  behind_stops : (w : HeadWidth) → behind_head all (inside all (left + 1)) w (head.Array r) rest ≡ Err d
  unfolding array_at
  behind_stops w = rw (one_in, stops) refl

  here : (levels : ℕ) (w : HeadWidth) (h : Head) (bs mid : List ℕ) → opening_at bs ≡ Ok ((w, h), mid) → Found levels h mid → item_at all levels bs ≡ Err d
  here levels w h bs mid at found =
      let behind = subst (λ (p : (ℕ × Head) × List ℕ). behind_head all (inside all p.0.0) w p.0.1 p.1 ≡ Err d) (sym found) (behind_stops w) in
      item_opened all levels bs ∙ rw at behind

  step : (levels : ℕ) (bs : List ℕ) → opened_at levels bs ≡ Ok ((left + 1, head.Array r), rest)
      → ((w : HeadWidth) (n : ℕ) (mid : List ℕ) → opened_inside levels mid ≡ Ok ((left + 1, head.Array r), rest) → tag_at all (inside all levels) w n mid ≡ Err d) → item_at all levels bs ≡ Err d
  step levels bs is deeper = by (opening_at bs) refl
    where
      by : (read : Reads (HeadWidth × Head)) → opening_at bs ≡ read → item_at all levels bs ≡ Err d
      by (Err e) at = absurd (fault_read (opened_at levels bs) ((left + 1, head.Array r), rest) e (opened_stops levels bs e at) is)
      by (Ok ((w, h), mid)) at = elim (tag_or_other h) [
        | inl tag ↦
            let first = subst (λ (x : Head). opening_at bs ≡ Ok ((w, x), mid)) tag.1 at in
            let within = deeper w tag.0 mid (sym (opened_in_tag levels tag.0 bs mid w first) ∙ is) in
            item_opened all levels bs ∙ rw first within
        | inr other ↦ here levels w h bs mid at (ok_is ((levels, h), mid) ((left + 1, head.Array r), rest) (sym (opened_here levels bs mid w h other at) ∙ is))
      ]

  head_stops : (levels : ℕ) (bs : List ℕ) → opened_at levels bs ≡ Ok ((left + 1, head.Array r), rest) → item_at all levels bs ≡ Err d
  unfolding tag_at
  head_stops zero bs is = step zero bs is (λ w n mid e. absurd cc)
  head_stops (suc next) bs is = step (suc next) bs is (λ w n mid e. rw (head_stops next mid e) refl)

-- ---- steps

-- what stops the items that remain of an array stops the item at the front
abbrev pub StopsArray : ℕ → ℕ → Remaining → Limits → List ℕ → List ℕ → Type 0
StopsArray levels left r l bs rest = (d : Fault) → items_at all_formats l left (remaining_of r) rest ≡ Err d → any_item levels l bs ≡ Err d

-- after the head
pub array_begins : (levels left : ℕ) (r : Remaining) (s m : Input) → Step s m (λ l bs rest. Begins head.Array levels left r bs rest) → Step s m (StopsArray levels left r)
array_begins levels left r s m = step_map s m (λ l bs rest. Begins head.Array levels left r bs rest) (StopsArray levels left r)
    (λ l bs rest begun d stops. value_stops l levels bs d (head_stops l left r rest d stops levels bs begun))

-- after another item
pub array_goes_on : {A : Type 0} (reads : Raw → A → Type 0) (f : Formats) (levels left : ℕ) (r behind : Remaining) (x : A) (s m t : Input) → Step s m (StopsArray levels left r) → Step m t (IsNextItem reads f left (remaining_of r) (remaining_of behind) x) → Step s t (StopsArray levels left behind)
array_goes_on reads f levels left r behind x s m t = step_then s m t (StopsArray levels left r) (IsNextItem reads f left (remaining_of r) (remaining_of behind) x) (StopsArray levels left behind)
    (λ l bs mid rest so n d stops.
    let got = raw_read l left n.start f rest n.item.item n.item.is in
    so d (others_stop l left (remaining_of r) (remaining_of behind) mid n.start rest got.item d n.next got.is stops))

-- ---- errors

module _ (allowed : ReadErrorCode → Bool) (e : Error) where
  -- of the items that remain, after those that were read
  pub array_fault : (levels left : ℕ) (r : Remaining) (s m : Input) → Step s m (StopsArray levels left r) → ItemsFault allowed left r m e → ItemFault allowed levels s e
  array_fault levels left r s m = if_any_then allowed s e m (StopsArray levels left r) (λ l. items_at all_formats l left (remaining_of r)) (any_item levels) (λ l bs mid d so. so d)

  module _ (levels : ℕ) (r : Remaining) (s : Input) where
    abbrev remain : Limits → List ℕ → Reads Raws
    remain l = items_at all_formats l levels (remaining_of r)

    -- it can't be told whether an item comes
    pub next_fault : ReportsFault allowed (λ l. next_at end_in_array (remaining_of r)) s e → ItemsFault allowed levels r s e
    next_fault h = if_any_map allowed s e (λ l. next_at end_in_array (remaining_of r)) remain (λ l bs d is. next_stops l levels (remaining_of r) bs d is) (reported_if_any allowed s e (λ l. next_at end_in_array (remaining_of r)) h)

    -- the end isn't there
    pub end_fault : ReportsFault allowed (λ l. ended_at end_in_array (remaining_of r)) s e → ItemsFault allowed levels r s e
    end_fault h = if_told_map allowed s e (λ l. ended_at end_in_array (remaining_of r)) remain (λ l bs d told is. end_stops l levels (remaining_of r) bs d told is) (reported_if_any allowed s e (λ l. ended_at end_in_array (remaining_of r)) h)

    -- of the item that comes
    pub came_fault : (behind : Remaining) (m : Input) → Step s m (λ l bs rest. next_at end_in_array (remaining_of r) bs ≡ Ok (Some (remaining_of behind), rest)) → ItemFault allowed levels m e → ItemsFault allowed levels r s e
    came_fault behind m = if_any_then allowed s e m (λ l bs rest. next_at end_in_array (remaining_of r) bs ≡ Ok (Some (remaining_of behind), rest)) (any_item levels) remain
        (λ l bs mid d next is. item_stops l levels (remaining_of r) (remaining_of behind) bs mid d next (raw_stops l levels mid d is))

    -- of what a call gave for it
    pub came_where : (b : Bool) (behind : Remaining) (m : Input) (inside : ℕ) → inside ≡ levels → Step s m (λ l bs rest. next_at end_in_array (remaining_of r) bs ≡ Ok (Some (remaining_of behind), rest)) → WhereTotal b (ItemFault allowed inside m e) → WhereTotal b (ItemsFault allowed levels r s e)
    came_where b behind m inside same step = where_map b (λ h. came_fault behind m step (subst (λ (n : ℕ). ItemFault allowed n m e) same h))

    -- of those that follow it
    pub others_fault : {A : Type 0} (reads : Raw → A → Type 0) (f : Formats) (behind : Remaining) (x : A) (m : Input) → Step s m (IsNextItem reads f levels (remaining_of r) (remaining_of behind) x) → ItemsFault allowed levels behind m e → ItemsFault allowed levels r s e
    others_fault reads f behind x m = if_any_then allowed s e m (IsNextItem reads f levels (remaining_of r) (remaining_of behind) x) (λ l. items_at all_formats l levels (remaining_of behind)) remain
        (λ l bs mid d n is.
        let got = raw_read l levels n.start f mid n.item.item n.item.is in
        others_stop l levels (remaining_of r) (remaining_of behind) bs n.start mid got.item d n.next got.is is)

  -- nothing remains, so that the end isn't refused
  pub no_end_fault : (levels : ℕ) (new : Remaining) (s u : Input) (P : Limits → List ℕ → List ℕ → Type 0) → new ≡ Counted 0 → Step s u P → ReportsFault allowed (λ l. ended_at end_in_array (remaining_of new)) u e → ItemFault allowed levels s e
  no_end_fault levels new s u P none step h = if_any_then allowed s e u P (λ l. ended_at end_in_array (remaining_of new)) (any_item levels) (λ l bs mid d p is. absurd (none_remains new mid d none is))
      step (reported_if_any allowed u e (λ l. ended_at end_in_array (remaining_of new)) h)

-- ---- answers

module _ (allowed : ReadErrorCode → Bool) (levels : ℕ) (r : Remaining) (s : Input) where
  pub end_err : (t : Input) (q : Result (Unit {0}) Error) → TakesEndOf collection.Array allowed r s t q → IfErr q (ItemsFault allowed levels r s)
  end_err t (Ok u) h = tt
  end_err t (Err e) h = end_fault allowed e levels r s h.1

  pub came_err : {A : Type 0} (b : Bool) (behind : Remaining) (m place : Input) (inside : ℕ) → place ≡ m → inside ≡ levels → Step s m (λ l bs rest. next_at end_in_array (remaining_of r) bs ≡ Ok (Some (remaining_of behind), rest)) → (q : Result A Error)
      → IfErr q (λ e. WhereTotal b (ItemFault allowed inside place e)) → IfErr q (λ e. WhereTotal b (ItemsFault allowed levels r s e))
  came_err b behind m place inside kept same step (Ok x) h = tt
  came_err b behind m place inside kept same step (Err e) h =
      came_where allowed e levels r s b behind m inside same step (subst (λ (x : Input). WhereTotal b (ItemFault allowed inside x e)) kept h)
