-- What a call gave for the value of a field holds of the input as it was before its source brought bytes to
-- hand.
use Rattle.std.proofs.Common.{◌∙◌, ◌≡◌, ℕ, Bool, List, Option, Result, Ok, Err, IfErr, false, sym, ap, subst}
use Rattle.std.specs.Option.{is_some}
use Rattle.cbor_model.specs.Raw.{Raw}
use Rattle.cbor_model.specs.Reader.{item_at}
use Rattle.cbor_read.specs.Source.{Input, Stays}
use Rattle.cbor_io.specs.Error.{code_of, offset_of}
use Rattle.cbor_io.specs.declared.error.Error.{Error}
use Rattle.cbor_io.specs.declared.read_error.ReadErrorCode.{ReadErrorCode}
use Rattle.cbor_decode.specs.Gives.{Limits, Step}
use Rattle.cbor_decode.specs.declared.formats.Formats.{Formats}
use Rattle.cbor_decode.proofs.facts.Steps.{none_step, step_then}
use Rattle.cbor_decode_as.specs.Takes.{IsNotRead, IsRead, formats_of, raws}
use Rattle.cbor_decode_as.proofs.facts.Readings.{refuses_then}
use Rattle.cbor_de.proofs.facts.Readings.{memory_err_gathered}
use Rattle.cbor_described.specs.FieldLists.{MemoryForSlot, TakesSlot}

abbrev Same : Limits → List ℕ → List ℕ → Type 0
Same l bs rest = bs ≡ rest

same_step : (s m : Input) → Stays s m → Step s m Same
same_step s m stays = none_step s m stays.bytes stays.count stays.room

module _ (s m : Input) (stays : Stays s m) {A : Type 0} (allowed : ReadErrorCode → Bool) where
  taken_gathered : (f : Formats) (levels : ℕ) (reads : Raw → A → Type 0) (old new : Option A) (t : Input) (r : Result (Unit {0}) Error)
      → TakesSlot (formats_of f) levels allowed reads old new m t r → TakesSlot (formats_of f) levels allowed reads old new s t r
  taken_gathered f levels reads old new t (Ok u) h =
      let x = h.1.0 in
      let P : Limits → List ℕ → List ℕ → Type 0 = λ l bs rest. IsRead reads (item_at (raws (formats_of f) l) levels bs) x rest in
      (h.0, (x, h.1.1, step_then s m t Same P P (λ l bs mid rest same got. subst (λ (b : List ℕ). P l b rest) (sym same) got) (same_step s m stays) h.1.2))
  taken_gathered f levels reads old new t (Err e) h =
      let N : Limits → List ℕ → Type 0 = λ l bs. is_some old ≡ false → IsNotRead reads (item_at (raws (formats_of f) l) levels bs) in
      refuses_then allowed s (code_of e) (offset_of e) m Same N N (λ l bs mid same none. subst (λ (b : List ℕ). N l b) (sym same) none) (same_step s m stays) h

  -- the same, of settings and a slot that are still to be seen as the same
  pub slot_gathered : (f g : Formats) → g ≡ f → (reads : Formats → Raw → A → Type 0) (levels left : ℕ) → left ≡ levels → (old mid new : Option A) → mid ≡ old → (t : Input) (r : Result (Unit {0}) Error)
      → TakesSlot (formats_of g) left allowed (reads g) mid new m t r → TakesSlot (formats_of f) levels allowed (reads f) old new s t r
  slot_gathered f g formats reads levels left same old mid new slot t r h =
      taken_gathered f levels (reads f) old new t r
      (subst (λ (x : Formats). TakesSlot (formats_of x) levels allowed (reads x) old new m t r) formats
      (subst (λ (n : ℕ). TakesSlot (formats_of g) n allowed (reads g) old new m t r) same
      (subst (λ (o : Option A). TakesSlot (formats_of g) left allowed (reads g) o new m t r) slot h)))

  pub memory_gathered : (asks : Raw → Type 0) (f g : Formats) → g ≡ f → (reads : Formats → Raw → A → Type 0) (levels left : ℕ) → left ≡ levels → (old mid : Option A) → mid ≡ old → (r : Result (Unit {0}) Error)
      → IfErr r (MemoryForSlot (formats_of g) left asks (reads g) mid m) → IfErr r (MemoryForSlot (formats_of f) levels asks (reads f) old s)
  memory_gathered asks f g formats reads levels left same old mid slot (Ok u) h = tt
  memory_gathered asks f g formats reads levels left same old mid slot (Err e) h = λ none.
      memory_err_gathered s m stays asks {X = Unit {0}} f g formats reads levels left same (Err e) (h (ap (λ (o : Option A). is_some o) slot ∙ none))
