-- The items that remain of an array, as the list of a tuple's parts: what the answers of the calls on a
-- part, on the others and on the end add.
use Rattle.cbor_decode.specs.Cursor.{behind_next}
use Rattle.std.proofs.Common.{◌≡◌, inl, inr, ℕ, Bool, true, List, [], ◌∷◌, Option, Some, None, Result, Ok, Err, IfErr, refl, sym, ap, subst, ◌∙◌}
use Rattle.cbor_model.specs.Reader as reader
use Rattle.cbor_model.proofs.facts.Reader.{ok_is}
use Rattle.cbor_model.specs.Formats as model
use Rattle.cbor_model.specs.Raw.{Raw, Raws, no_raws}
use Rattle.cbor_model.specs.Readable.{PassesTags}
use Rattle.cbor_model.specs.Reader.{Reads, item_at, next_at}
use Rattle.cbor_model.specs.Refusal.{end_in_array}
use Rattle.cbor_read.specs.Source.{Input}
use Rattle.cbor_io.specs.Error.{IsMessageOf, code_of, offset_of}
use Rattle.cbor_io.specs.declared.error.Error.{Error}
use Rattle.cbor_io.specs.declared.read_error.ReadErrorCode.{ReadErrorCode}
use Rattle.cbor_decode.specs.Gives.{Limits, Step}
use Rattle.cbor_decode.specs.Heads.{remaining_of}
use Rattle.cbor_decode.specs.declared.cursor.Remaining.{Remaining}
use Rattle.cbor_decode.specs.declared.formats.Formats.{Formats}
use Rattle.cbor_decode.proofs.facts.Steps.{step_map, step_then}
use Rattle.cbor_decode_as.specs.Accesses.{items_at, IsNext, IsNextItem, TakesMore, TakesNext, TakesPart, IsEnd}
use Rattle.cbor_decode_as.specs.Collections.{IsHeadOf, TakesEndOf}
use Rattle.cbor_decode_as.specs.Arrays.{AreNone, AsArray}
use Rattle.cbor_decode_as.specs.Enums.{part_then, no_part}
use Rattle.cbor_decode_as.specs.Takes.{TakesItem, IsRead, formats_of, raws}
use Rattle.cbor_de.specs.ItemLists.{AreItems, AreNoItems, MemoryForItem, NoneComes, ReportsShort, TakesItems}
use Rattle.cbor_decode_as.proofs.facts.Arrays.{comes, item_next, item_refused, NoPart, part_refused}
use Rattle.cbor_decode_as.proofs.facts.Arrays.{append, with_front, SoFar, is_done, goes_on, begins, rest_of, no_part_rest}
use Rattle.cbor_decode_as.proofs.facts.Arrays.{NoItems, array_refused, end_lacks, end_step, loop_begins}
use Rattle.cbor_decode_as.proofs.facts.Collections.{held_read}
use Rattle.cbor_decode_as.proofs.facts.Readings.{refuses_map, refuses_then}
use Rattle.cbor_decode_as.proofs.facts.Tuples.{Empty, Then, one_more, none_all, first_follows, empty_rest}
use Rattle.cbor_decode.specs.declared.cursor.Collection.TheVariants as collection

-- ---- the items of several parts

-- one item, and those after it
then_made : {A B : Type 0} (reads : Raw → A → Type 0) (others : Raws → B → Type 0) (x : A) (y : B) (front : List Raw) (more : Raws) → Then reads x Empty front → others more y → part_then reads others (append front more) (x, y)
then_made reads others x y [] more h k = absurd h
then_made reads others x y (r ∷ []) more h k = (h.0, k)
then_made reads others x y (r ∷ q ∷ front) more h k = absurd h.1

then_needs : {A B : Type 0} (reads : Raw → A → Type 0) (others : Raws → B → Type 0) (x : A) (y : A × B) (front : List Raw) (more : Raws) → Then reads x Empty front → part_then reads others (append front more) y → others more y.1
then_needs reads others x y [] more h k = absurd h
then_needs reads others x y (r ∷ []) more h k = k.1
then_needs reads others x y (r ∷ q ∷ front) more h k = absurd h.1

module _ {A B : Type 0} (reads : Raw → A → Type 0) (others : Raws → B → Type 0) (f : model.Formats) (levels : ℕ) (r : Remaining) (allowed : ReadErrorCode → Bool) where
  abbrev Items : Limits → List ℕ → Reads Raws
  Items l bs = items_at f l levels (remaining_of r) bs

  -- the first part isn't there
  pub first_lacks : (s t : Input) (e : Error) → TakesPart allowed f reads levels r r s t (Err e) → TakesItems allowed f (part_then reads others) levels r s t (Err e)
  first_lacks s t e = refuses_map allowed s (code_of e) (offset_of e) (NoPart reads f levels (remaining_of r)) (λ l bs. AreNoItems (part_then reads others) (Items l bs))
      (λ l bs none x rest got. no_part_rest reads f levels (remaining_of r) l bs none got.all rest got.is (first_follows reads x.0 (λ more. others more x.1) got.all got.meaning))

  module _ (new : Remaining) (s m : Input) (x : A) (first : Step s m (IsNextItem reads f levels (remaining_of r) (remaining_of new) x)) where
    first_so : (l : Limits) (bs mid : List ℕ) → IsNextItem reads f levels (remaining_of r) (remaining_of new) x l bs mid → SoFar (Then reads x Empty) f levels (remaining_of r) (remaining_of new) l bs mid
    first_so l bs mid n = goes_on Empty f levels (remaining_of r) reads x (Then reads x Empty) (λ front q h k. one_more reads x q k front h) (remaining_of r) (remaining_of new) l bs bs mid (begins Empty f levels (remaining_of r) l bs tt) n

    -- after it the others aren't there
    pub others_lack : (t : Input) (e : Error) → TakesItems allowed f others levels new m t (Err e) → TakesItems allowed f (part_then reads others) levels r s t (Err e)
    others_lack t e = refuses_then allowed s (code_of e) (offset_of e) m (IsNextItem reads f levels (remaining_of r) (remaining_of new) x) (λ l bs. AreNoItems others (items_at f l levels (remaining_of new) bs)) (λ l bs. AreNoItems (part_then reads others) (Items l bs))
        (λ l bs mid n none y rest got.
        let w = rest_of (Then reads x Empty) f levels (remaining_of r) (remaining_of new) l bs mid rest got.all (first_so l bs mid n) got.is in
        let here = subst (λ (rs : Raws). part_then reads others rs y) w.same got.meaning in
        none y.1 rest (record { all = w.more; is = w.is; meaning = then_needs reads others x y w.front w.more w.holds here })) first

    -- all parts are there
    pub parts_there : (t : Input) (y : B) → TakesItems allowed f others levels new m t (Ok y) → TakesItems allowed f (part_then reads others) levels r s t (Ok (x, y))
    parts_there t y = step_then s m t (IsNextItem reads f levels (remaining_of r) (remaining_of new) x) (λ l bs rest. AreItems others (items_at f l levels (remaining_of new) bs) y rest) (λ l bs rest. AreItems (part_then reads others) (Items l bs) (x, y) rest)
        (λ l bs mid rest n got.
        let so = first_so l bs mid n in
        record { all = append so.front got.all; is = sym so.same ∙ ap (with_front so.front) got.is; meaning = then_made reads others x y so.front got.all so.holds got.meaning }) first

-- the same formats and levels
module _ {B : Type 0} (items : Formats → Raws → B → Type 0) (f g : Formats) (levels inside : ℕ) (formats : g ≡ f) (same : inside ≡ levels) (allowed : ReadErrorCode → Bool) (r : Remaining) (s t : Input) where
  pub same_place : (q : Result B Error) → TakesItems allowed (formats_of g) (items g) inside r s t q → TakesItems allowed (formats_of f) (items f) levels r s t q
  same_place q h =
      let here = subst (λ (g : Formats). TakesItems allowed (formats_of g) (items g) inside r s t q) formats h in
      subst (λ (n : ℕ). TakesItems allowed (formats_of f) (items f) n r s t q) same here

-- nothing is left
module _ (f : Formats) (levels : ℕ) (r : Remaining) (allowed : ReadErrorCode → Bool) (s t : Input) where
  pub none_left : (q : Result (Unit {0}) Error) → TakesEndOf collection.Array allowed r s t q → TakesItems allowed (formats_of f) no_part levels r s t q
  none_left (Ok u) h = step_map s t (IsEnd (remaining_of r)) (λ l bs rest. AreItems no_part (items_at (formats_of f) l levels (remaining_of r) bs) tt rest)
      (λ l bs rest e.
      let d = is_done Empty (formats_of f) levels (remaining_of r) (remaining_of r) l bs bs rest (begins Empty (formats_of f) levels (remaining_of r) l bs tt) e in
      record { all = append d.front no_raws; is = d.is; meaning = none_all d.front d.holds }) (end_step r s t h)
  none_left (Err e) h = refuses_map allowed s (code_of e) (offset_of e) (NoItems no_part (formats_of f) levels (remaining_of r)) (λ l bs. AreNoItems no_part (items_at (formats_of f) l levels (remaining_of r) bs))
      (λ l bs none x rest got. none got.all rest x got.is got.meaning)
      (end_lacks s Empty f f levels levels refl refl r no_part allowed r s t e (λ front more x h k. empty_rest AreNone AreNone (λ more n. n) front more h k) (loop_begins s Empty f f levels levels refl refl r tt) h)

-- a part of an array that goes on
module _ {A : Type 0} (reads : Formats → Raw → A → Type 0) (f g : Formats) (levels inside : ℕ) (formats : g ≡ f) (same : inside ≡ levels) (s m t : Input) (old new : Remaining) (more : Bool) (is : more ≡ true) (allowed : ReadErrorCode → Bool) where
  pub part_answer : Step s m (λ l bs rest. next_at end_in_array (remaining_of old) bs ≡ Ok (behind_next new more, rest)) → (q : Result A Error) → TakesItem allowed (formats_of g) (reads g) inside m t q → TakesPart allowed (formats_of f) (reads f) levels old new s t q
  part_answer step (Ok x) h = item_next s m old new more reads f g levels inside formats same t x (comes s m old new more is step) h
  part_answer step (Err e) h = part_refused allowed (reads f) (formats_of f) levels (remaining_of old) s (code_of e) (offset_of e)
      (item_refused s m old new more reads f g levels inside formats same allowed (code_of e) (offset_of e) (comes s m old new more is step) h)

-- ---- the items of a view

-- Items that mean the parts mean what has those parts, and where none do there is nothing.
module _ {S P : Type 0} (view : S → P) (items : Raws → P → Type 0) (f : model.Formats) (levels : ℕ) (r : Remaining) (allowed : ReadErrorCode → Bool) (s t : Input) where
  pub items_of : (p : P) (x : S) → view x ≡ p → TakesItems allowed f items levels r s t (Ok p) → TakesItems allowed f (λ all x. items all (view x)) levels r s t (Ok x)
  items_of p x is = step_map s t (λ l bs rest. AreItems items (items_at f l levels (remaining_of r) bs) p rest) (λ l bs rest. AreItems (λ all x. items all (view x)) (items_at f l levels (remaining_of r) bs) x rest)
      (λ l bs rest got. record { all = got.all; is = got.is; meaning = subst (λ (p : P). items got.all p) (sym is) got.meaning })

  pub no_items_of : (e : Error) → TakesItems {A = P} allowed f items levels r s t (Err e) → TakesItems {A = S} allowed f (λ all x. items all (view x)) levels r s t (Err e)
  no_items_of e = refuses_map allowed s (code_of e) (offset_of e) (λ l bs. AreNoItems items (items_at f l levels (remaining_of r) bs)) (λ l bs. AreNoItems (λ all x. items all (view x)) (items_at f l levels (remaining_of r) bs))
      (λ l bs none x rest got. none (view x) rest (record { all = got.all; is = got.is; meaning = got.meaning }))

-- ---- a whole array

-- what the items gave after the head
module _ {A : Type 0} (items : Formats → Raws → A → Type 0) (f g : Formats) (formats : g ≡ f) (outer inner : ℕ) (all : Remaining) (allowed : ReadErrorCode → Bool) (s m t : Input) (head : Step s m (λ l bs rest. IsHeadOf collection.Array (formats_of f) l (item_at (raws (formats_of f) l) outer bs) inner all rest)) where
  array_here : (q : Result A Error) → TakesItems allowed (formats_of f) (items f) inner all m t q → TakesItem allowed (formats_of f) (PassesTags (AsArray (items f))) outer s t q
  array_here (Ok x) h = step_then s m t (λ l bs rest. IsHeadOf collection.Array (formats_of f) l (item_at (raws (formats_of f) l) outer bs) inner all rest) (λ l bs rest. AreItems (items f) (items_at (formats_of f) l inner (remaining_of all) bs) x rest) (λ l bs rest. IsRead (PassesTags (AsArray (items f))) (item_at (raws (formats_of f) l) outer bs) x rest)
      (λ l bs mid rest a got. held_read collection.Array (items f) (formats_of f) l (item_at (raws (formats_of f) l) outer bs) inner all mid a got.all rest x got.is got.meaning) head h
  array_here (Err e) h = array_refused m (λ front. Unit {0}) f f inner inner refl refl all (items f) outer s allowed (code_of e) (offset_of e) head
      (refuses_map allowed m (code_of e) (offset_of e) (λ l bs. AreNoItems (items f) (items_at (formats_of f) l inner (remaining_of all) bs)) (NoItems (items f) (formats_of f) inner (remaining_of all))
      (λ l bs none rs rest x is means. none x rest (record { all = rs; is = is; meaning = means })) h)

  pub array_answer : (q : Result A Error) → TakesItems allowed (formats_of g) (items g) inner all m t q → TakesItem allowed (formats_of f) (PassesTags (AsArray (items f))) outer s t q
  array_answer q h = array_here q (subst (λ (g : Formats). TakesItems allowed (formats_of g) (items g) inner all m t q) formats h)

-- ---- too few items

module _ {A : Type 0} (reads : Raw → A → Type 0) (f : model.Formats) (levels : ℕ) (r : Remaining) (s : Input) where
  pub none_comes : (t : Input) (behind : Remaining) → Step s t (IsNext reads f levels (remaining_of r) (remaining_of behind) None) → NoneComes r s
  none_comes t behind step bs reports = let one = step.reported bs reports in (one.rest, one.holds)

  -- so no memory is asked for an item
  pub none_asked : (asks : Raw → Type 0) (e : Error) → NoneComes r s → MemoryForItem asks f reads levels r s e
  none_asked asks e none out bs reports x after rest next =
      let one = none bs reports in
      absurd (none_some after (ap (λ (p : Option reader.Remaining × List ℕ). p.0) (ok_is (None, one.0) (Some after, next.start) (sym one.1 ∙ next.next))))
    where
      none_some : (x : reader.Remaining) → None ≡ Some x → ⊥
      none_some x e = absurd cc

module _ (allowed : ReadErrorCode → Bool) (text : List ℕ) (r : Remaining) (s : Input) where
  -- it is told where none comes
  pub short_told : (e : Error) → IsMessageOf (Some text) (code_of e) → offset_of e ≡ 0 → ReportsShort allowed text r s e
  short_told e is none bs reports rest end = inr (is, none)

  -- neither an item nor the end is there
  pub short_unmore : {w : Input} (e : Error) → TakesMore allowed r r s w (Err e) → ReportsShort allowed text r s e
  short_unmore e h bs reports rest end = elim (h.reported bs reports) [
    | inl excused ↦ inl excused
    | inr none ↦ absurd (none None rest end)
  ]

  pub short_unread : {A : Type 0} {w : Input} (reads : Raw → A → Type 0) (f : model.Formats) (levels : ℕ) (e : Error) → TakesNext {A = A} allowed f reads levels r r s w (Err e) → ReportsShort allowed text r s e
  short_unread reads f levels e h bs reports rest end = elim (h.reported bs reports) [
    | inl excused ↦ inl excused
    | inr none ↦ absurd (none None (remaining_of r) rest end)
  ]

  -- one came
  pub short_later : {A : Type 0} (m : Input) (new : Remaining) (more : Bool) (q : Result A Error) → more ≡ true → Step s m (λ l bs rest. next_at end_in_array (remaining_of r) bs ≡ Ok (behind_next new more, rest)) → IfErr q (ReportsShort allowed text r s)
  short_later m new more (Ok x) is step = tt
  short_later m new more (Err e) is step = λ bs reports rest end.
      let one = (comes s m r new more is step).reported bs reports in
      absurd (some_none (remaining_of new) (ap (λ (p : Option reader.Remaining × List ℕ). p.0) (ok_is (None, rest) (Some (remaining_of new), one.rest) (sym end ∙ one.holds))))
    where
      some_none : (x : reader.Remaining) → None ≡ Some x → ⊥
      some_none x e = absurd cc
