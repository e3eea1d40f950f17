-- A whole array, from its head to its end.
use Rattle.std.proofs.Common.{◌≡◌, ℕ, zero, suc, ◌==◌, Bool, true, false, cond, List, [], ◌∷◌, ◌++◌, Option, Some, None, Ok, Err, sym, ap, subst, ◌∙◌}
use Rattle.cbor_model.specs.Formats as model
use Rattle.cbor_model.specs.Raw.{Raw, Raws, no_raws}
use Rattle.cbor_model.specs.Readable.{PassesTags}
use Rattle.cbor_model.specs.Refusal.{end_in_array}
use Rattle.cbor_model.specs.Reader.{Fault, Reads, next_at, item_at}
use Rattle.cbor_model.specs.Reader as reader
use Rattle.cbor_model.proofs.facts.Reader.{ok_is}
use Rattle.cbor_read.specs.Source.{Input}
use Rattle.cbor_io.specs.Error.{code_of, offset_of}
use Rattle.cbor_io.specs.declared.error.Error.{Error}
use Rattle.cbor_io.specs.declared.error.ErrorCode.{ErrorCode}
use Rattle.cbor_io.specs.declared.read_error.ReadErrorCode.{ReadErrorCode}
use Rattle.cbor_decode.specs.Cursor.{ended_at}
use Rattle.cbor_decode.specs.Gives.{Limits, Step}
use Rattle.cbor_decode.specs.Heads.{remaining_of}
use Rattle.cbor_decode.specs.declared.cursor.Remaining.{Remaining}
use Rattle.cbor_decode.specs.declared.cursor.Remaining.TheVariants.{Counted}
use Rattle.cbor_decode.proofs.facts.Steps.{step_same, step_map, step_then}
use Rattle.cbor_decode.specs.declared.formats.Formats.{Formats}
use Rattle.cbor_decode_as.specs.Accesses.{items_at, IsNext, IsEnd, IsNextItem}
use Rattle.cbor_decode_as.specs.Collections.{IsHeadOf, IsHeld, RefusesHeadOf, TakesEndOf}
use Rattle.cbor_decode_as.specs.Arrays.{AsArray, AreNone}
use Rattle.cbor_decode_as.specs.Takes.{formats_of, raws, IsRead, IsNotRead, Refuses}
use Rattle.cbor_decode_as.proofs.collections.Heads.{held_none, held_read, none_as_one}
use Rattle.cbor_decode_as.proofs.refused.Refusing.{refuses_map, refuses_then, refuses_fault}
use Rattle.cbor_decode_as.proofs.arrays.Nexts.{NoPart}
use Rattle.cbor_decode_as.proofs.arrays.Sequences.{append, SoFar, begins, goes_on, is_done, rest_of, NoNext, no_rest, MayFollow, MustFollow, no_part_rest, no_end_rest}
use Rattle.cbor_decode.specs.declared.cursor.Collection.TheVariants as collection

-- ---- the end

at_break : (c : Bool) (f : Fault) (bs other rest : List ℕ) → cond {A = Reads (Unit {0})} c (Ok (tt, bs)) (Err f) ≡ Ok (tt, rest) → cond {A = Reads (Option reader.Remaining)} c (Ok (None, bs)) (Ok (Some reader.to_break, other)) ≡ Ok (None, rest)
at_break true f bs other rest is = ap (λ (p : Unit {0} × List ℕ). Ok (None, p.1)) (ok_is (tt, bs) (tt, rest) is)
at_break false f bs other rest is = absurd cc

pub ended_is : (r : reader.Remaining) (l : Limits) (bs rest : List ℕ) → ended_at end_in_array r bs ≡ Ok (tt, rest) → IsEnd r l bs rest
unfolding ended_at next_at
ended_is (reader.counted zero) l bs rest is = ap (λ (p : Unit {0} × List ℕ). Ok (None, p.1)) (ok_is (tt, bs) (tt, rest) is)
ended_is (reader.counted (suc n)) l bs rest is = absurd cc
ended_is reader.to_break l [] rest is = absurd cc
ended_is reader.to_break l (b ∷ bs) rest is = at_break (b == 255) _ bs (b ∷ bs) rest is

pub end_step : (r : Remaining) (t w : Input) → Step t w (λ l bs rest. ended_at end_in_array (remaining_of r) bs ≡ Ok (tt, rest)) → Step t w (IsEnd (remaining_of r))
end_step r t w = step_map t w (λ l bs rest. ended_at end_in_array (remaining_of r) bs ≡ Ok (tt, rest)) (IsEnd (remaining_of r)) (λ l bs rest is. ended_is (remaining_of r) l bs rest is)

-- the end has no fault
fault_at_break : (c : Bool) (f g : Fault) (bs other rest : List ℕ) → cond {A = Reads (Option reader.Remaining)} c (Ok (None, bs)) (Ok (Some reader.to_break, other)) ≡ Ok (None, rest) → cond {A = Reads (Unit {0})} c (Ok (tt, bs)) (Err f) ≡ Err g → ⊥
fault_at_break true f g bs other rest is stops = absurd cc
fault_at_break false f g bs other rest is stops = some_none (ap (λ (p : Option reader.Remaining × List ℕ). p.0) (ok_is (Some reader.to_break, other) (None, rest) is))
  where
    some_none : Some reader.to_break ≡ None → ⊥
    some_none e = absurd cc

no_fault : (r : reader.Remaining) (l : Limits) (bs rest : List ℕ) (f : Fault) → IsEnd r l bs rest → ended_at end_in_array r bs ≡ Err f → ⊥
unfolding ended_at next_at
no_fault (reader.counted zero) l bs rest f is stops = absurd cc
no_fault (reader.counted (suc n)) l bs rest f is stops = some_none (ap (λ (p : Option reader.Remaining × List ℕ). p.0) (ok_is (Some (reader.counted n), bs) (None, rest) is))
  where
    some_none : Some (reader.counted n) ≡ None → ⊥
    some_none e = absurd cc
no_fault reader.to_break l [] rest f is stops = absurd cc
no_fault reader.to_break l (b ∷ bs) rest f is stops = fault_at_break (b == 255) _ f bs (b ∷ bs) rest is stops

-- nothing is taken after the end
pub end_twice : (r : reader.Remaining) (new : Remaining) (t u w : Input) → new ≡ Counted 0 → Step t u (IsEnd r) → Step u w (λ l bs rest. ended_at end_in_array (remaining_of new) bs ≡ Ok (tt, rest)) → Step t w (IsEnd r)
unfolding ended_at
end_twice r new t u w is one two = step_then t u w (IsEnd r) (λ l bs rest. ended_at end_in_array (remaining_of new) bs ≡ Ok (tt, rest)) (IsEnd r)
    (λ l bs mid rest e done.
    let here : ended_at end_in_array (reader.counted 0) mid ≡ Ok (tt, rest) = subst (λ (r : Remaining). ended_at end_in_array (remaining_of r) mid ≡ Ok (tt, rest)) is done in
    e ∙ ap (λ (p : Unit {0} × List ℕ). Ok (None, p.1)) (ok_is (tt, mid) (tt, rest) here)) one two

-- no end is refused where nothing remains
none_remains : (new : Remaining) (bs : List ℕ) (f : Fault) → new ≡ Counted 0 → ended_at end_in_array (remaining_of new) bs ≡ Err f → ⊥
unfolding ended_at
none_remains new bs f is e =
    let here : ended_at end_in_array (reader.counted 0) bs ≡ Err f = subst (λ (r : Remaining). ended_at end_in_array (remaining_of r) bs ≡ Err f) is e in
    absurd cc

pub no_end_refused : (allowed : ReadErrorCode → Bool) (s u w : Input) (new : Remaining) (e : Error) (P : Limits → List ℕ → List ℕ → Type 0) (N : Limits → List ℕ → Type 0) → new ≡ Counted 0 → Step s u P → TakesEndOf collection.Array allowed new u w (Err e) → Refuses allowed s w (code_of e) (offset_of e) N
no_end_refused allowed s u w new e P N is step h =
    refuses_then allowed s (code_of e) (offset_of e) u P (λ l bs. ⊥) N (λ l bs mid p none. absurd none) step
    (refuses_fault allowed (λ l. ended_at end_in_array (remaining_of new)) u e (λ l bs. ⊥) (λ l bs f stops. none_remains new bs f is stops) h.0 h.1)

-- ---- the items

-- the items of all aren't read as anything
abbrev pub NoItems : {A : Type 0} → (Raws → A → Type 0) → model.Formats → ℕ → reader.Remaining → Limits → List ℕ → Type 0
NoItems {A} items f levels all l bs = (rs : Raws) (rest : List ℕ) (x : A) → items_at f l levels all bs ≡ Ok (rs, rest) → items rs x → ⊥

module _ (s0 : Input) (P : List Raw → Type 0) (f g : Formats) (levels inside : ℕ) (formats : g ≡ f) (same : inside ≡ levels) (all : Remaining) where
  abbrev So : (List Raw → Type 0) → Remaining → Limits → List ℕ → List ℕ → Type 0
  So Q r = SoFar Q (formats_of f) levels (remaining_of all) (remaining_of r)

  pub loop_begins : P [] → Step s0 s0 (So P all)
  loop_begins holds = step_same s0 (So P all) (λ l bs. begins P (formats_of f) levels (remaining_of all) l bs holds)

  module _ {A : Type 0} (reads : Formats → Raw → A → Type 0) (r : Remaining) (s : Input) where
    pub loop_goes_on : (Q : List Raw → Type 0) (new : Remaining) (t : Input) (x : A) → ((front : List Raw) (i : Raw) → P front → reads f i x → Q (front ++ i ∷ []))
        → Step s0 s (So P r) → Step s t (IsNext (reads g) (formats_of g) inside (remaining_of r) (remaining_of new) (Some x)) → Step s0 t (So Q new)
    loop_goes_on Q new t x on one two =
        step_then s0 s t (So P r) (IsNext (reads g) (formats_of g) inside (remaining_of r) (remaining_of new) (Some x)) (So Q new)
        (λ l bs mid rest h n.
        let n' = subst (λ (g : Formats). IsNext (reads g) (formats_of g) inside (remaining_of r) (remaining_of new) (Some x) l mid rest) formats n in
        let n'' = subst (λ (k : ℕ). IsNext (reads f) (formats_of f) k (remaining_of r) (remaining_of new) (Some x) l mid rest) same n' in
        goes_on P (formats_of f) levels (remaining_of all) (reads f) x Q on (remaining_of r) (remaining_of new) l bs mid rest h n'') one two

    pub loop_refused : {B : Type 0} {w : Input} (items : Raws → B → Type 0) (allowed : ReadErrorCode → Bool) (k : ErrorCode) (at : ℕ) → ((front : List Raw) (more : Raws) (x : B) → P front → items (append front more) x → MayFollow (reads f) more)
        → Step s0 s (So P r) → Refuses allowed s w k at (NoNext (reads g) (formats_of g) inside (remaining_of r)) → Refuses allowed s0 w k at (NoItems items (formats_of f) levels (remaining_of all))
    loop_refused items allowed k at follows one two =
        refuses_then allowed s0 k at s (So P r) (NoNext (reads g) (formats_of g) inside (remaining_of r)) (NoItems items (formats_of f) levels (remaining_of all))
        (λ l bs mid h none rs rest x is means.
        let none' = subst (λ (g : Formats). NoNext (reads g) (formats_of g) inside (remaining_of r) l mid) formats none in
        let none'' = subst (λ (k : ℕ). NoNext (reads f) (formats_of f) k (remaining_of r) l mid) same none' in
        let w = rest_of P (formats_of f) levels (remaining_of all) (remaining_of r) l bs mid rest rs h is in
        no_rest (reads f) (formats_of f) levels (remaining_of r) l mid none'' w.more rest w.is (follows w.front w.more x w.holds (subst (λ (rs : Raws). items rs x) w.same means))) one two

    pub part_goes_on : (Q : List Raw → Type 0) (new : Remaining) (t : Input) (x : A) → ((front : List Raw) (i : Raw) → P front → reads f i x → Q (front ++ i ∷ []))
        → Step s0 s (So P r) → Step s t (IsNextItem (reads g) (formats_of g) inside (remaining_of r) (remaining_of new) x) → Step s0 t (So Q new)
    part_goes_on Q new t x on one two = loop_goes_on Q new t x on one two

    pub part_lacks : {B : Type 0} {w : Input} (items : Raws → B → Type 0) (allowed : ReadErrorCode → Bool) (k : ErrorCode) (at : ℕ) → ((front : List Raw) (more : Raws) (x : B) → P front → items (append front more) x → MustFollow (reads f) more)
        → Step s0 s (So P r) → Refuses allowed s w k at (NoPart (reads g) (formats_of g) inside (remaining_of r)) → Refuses allowed s0 w k at (NoItems items (formats_of f) levels (remaining_of all))
    part_lacks items allowed k at follows one two =
        refuses_then allowed s0 k at s (So P r) (NoPart (reads g) (formats_of g) inside (remaining_of r)) (NoItems items (formats_of f) levels (remaining_of all))
        (λ l bs mid h none rs rest x is means.
        let none' = subst (λ (g : Formats). NoPart (reads g) (formats_of g) inside (remaining_of r) l mid) formats none in
        let none'' = subst (λ (k : ℕ). NoPart (reads f) (formats_of f) k (remaining_of r) l mid) same none' in
        let w = rest_of P (formats_of f) levels (remaining_of all) (remaining_of r) l bs mid rest rs h is in
        no_part_rest (reads f) (formats_of f) levels (remaining_of r) l mid none'' w.more rest w.is (follows w.front w.more x w.holds (subst (λ (rs : Raws). items rs x) w.same means))) one two

  -- items are left where the end is due
  pub end_lacks : {B : Type 0} (items : Raws → B → Type 0) (allowed : ReadErrorCode → Bool) (r : Remaining) (s t : Input) (e : Error) → ((front : List Raw) (more : Raws) (x : B) → P front → items (append front more) x → AreNone more)
      → Step s0 s (So P r) → TakesEndOf collection.Array allowed r s t (Err e) → Refuses allowed s0 t (code_of e) (offset_of e) (NoItems items (formats_of f) levels (remaining_of all))
  end_lacks items allowed r s t e follows one two =
      refuses_then allowed s0 (code_of e) (offset_of e) s (So P r) (λ l bs. (rest : List ℕ) → IsEnd (remaining_of r) l bs rest → ⊥) (NoItems items (formats_of f) levels (remaining_of all))
      (λ l bs mid h none rs rest x is means.
      let w = rest_of P (formats_of f) levels (remaining_of all) (remaining_of r) l bs mid rest rs h is in
      no_end_rest (formats_of f) levels (remaining_of r) l mid none w.more rest w.is (follows w.front w.more x w.holds (subst (λ (rs : Raws). items rs x) w.same means)))
      one (refuses_fault allowed (λ l. ended_at end_in_array (remaining_of r)) s e (λ l bs. (rest : List ℕ) → IsEnd (remaining_of r) l bs rest → ⊥) (λ l bs fault stops rest end. no_fault (remaining_of r) l bs rest fault end stops) two.0 two.1)

  -- ---- the array

  module _ {B : Type 0} (items : Raws → B → Type 0) (outer : ℕ) (s : Input) where
    abbrev Head : Limits → List ℕ → List ℕ → Type 0
    Head l bs rest = IsHeadOf collection.Array (formats_of f) l (item_at (raws (formats_of f) l) outer bs) levels all rest

    pub array_takes : (t u : Input) (r : Remaining) (x : B) → ((front : List Raw) → P front → items (append front no_raws) x)
        → Step s s0 Head → Step s0 t (So P r) → Step t u (IsEnd (remaining_of r)) → Step s u (λ l bs rest. IsRead (PassesTags (AsArray items)) (item_at (raws (formats_of f) l) outer bs) x rest)
    array_takes t u r x on head so end =
        let both = step_then s0 t u (So P r) (IsEnd (remaining_of r)) (λ l bs rest. (rs : Raws) × (items_at (formats_of f) l levels (remaining_of all) bs ≡ Ok (rs, rest)) × items rs x)
        (λ l bs mid rest h e.
        let d = is_done P (formats_of f) levels (remaining_of all) (remaining_of r) l bs mid rest h e in
        (append d.front no_raws, d.is, on d.front d.holds)) so end in
        step_then s s0 u Head (λ l bs rest. (rs : Raws) × (items_at (formats_of f) l levels (remaining_of all) bs ≡ Ok (rs, rest)) × items rs x) (λ l bs rest. IsRead (PassesTags (AsArray items)) (item_at (raws (formats_of f) l) outer bs) x rest)
        (λ l bs mid rest h d. held_read collection.Array items (formats_of f) l (item_at (raws (formats_of f) l) outer bs) levels all mid h d.0 rest x d.1 d.2) head both

    -- the same, of what is left under another name
    pub array_takes_to : (t u w : Input) (r : Remaining) (x : B) → ((front : List Raw) → P front → items (append front no_raws) x)
        → Step s s0 Head → Step s0 t (So P r) → Step t u (IsEnd (remaining_of r)) → w ≡ u → Step s w (λ l bs rest. IsRead (PassesTags (AsArray items)) (item_at (raws (formats_of f) l) outer bs) x rest)
    array_takes_to t u w r x on head so end is =
        subst (λ (w : Input). Step s w (λ l bs rest. IsRead (PassesTags (AsArray items)) (item_at (raws (formats_of f) l) outer bs) x rest)) (sym is) (array_takes t u r x on head so end)

    pub array_refused : {w : Input} (allowed : ReadErrorCode → Bool) (k : ErrorCode) (at : ℕ) → Step s s0 Head → Refuses allowed s0 w k at (NoItems items (formats_of f) levels (remaining_of all))
        → Refuses allowed s w k at (λ l bs. IsNotRead (PassesTags (AsArray items)) (item_at (raws (formats_of f) l) outer bs))
    array_refused allowed k at head none = refuses_then allowed s k at s0 Head (NoItems items (formats_of f) levels (remaining_of all)) (λ l bs. IsNotRead (PassesTags (AsArray items)) (item_at (raws (formats_of f) l) outer bs))
        (λ l bs mid h n. held_none collection.Array items (formats_of f) l (item_at (raws (formats_of f) l) outer bs) levels all mid h n) head none

    -- nothing remains, so that the end can't be refused
    pub end_refused : (allowed : ReadErrorCode → Bool) (t u w : Input) (r new : Remaining) (e : Error) → new ≡ Counted 0
        → Step s s0 Head → Step s0 t (So P r) → Step t u (IsEnd (remaining_of r)) → TakesEndOf collection.Array allowed new u w (Err e) → Refuses allowed s w (code_of e) (offset_of e) (λ l bs. IsNotRead (PassesTags (AsArray items)) (item_at (raws (formats_of f) l) outer bs))
    end_refused allowed t u w r new e none head so end h =
        let one = step_then s s0 t Head (So P r) (λ l bs rest. Unit {0}) (λ l bs mid rest a b. tt) head so in
        let two = step_then s t u (λ l bs rest. Unit {0}) (IsEnd (remaining_of r)) (λ l bs rest. Unit {0}) (λ l bs mid rest a b. tt) one end in
        no_end_refused allowed s u w new e (λ l bs rest. Unit {0}) (λ l bs. IsNotRead (PassesTags (AsArray items)) (item_at (raws (formats_of f) l) outer bs)) none two h

-- no array is there
pub no_array_read : {B : Type 0} {w : Input} (items : Raws → B → Type 0) (allowed : ReadErrorCode → Bool) (f : model.Formats) (levels : ℕ) (s : Input) (e : Error) → RefusesHeadOf collection.Array allowed f levels s w e → Refuses allowed s w (code_of e) (offset_of e) (λ l bs. IsNotRead (PassesTags (AsArray items)) (item_at (raws f l) levels bs))
no_array_read items allowed f levels s e h = refuses_map allowed s (code_of e) (offset_of e) (λ l bs. IsNotRead (PassesTags (IsHeld collection.Array)) (item_at (raws f l) levels bs)) (λ l bs. IsNotRead (PassesTags (AsArray items)) (item_at (raws f l) levels bs)) (λ l bs none. none_as_one collection.Array items (item_at (raws f l) levels bs) none) h
