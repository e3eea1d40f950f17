-- What was read at hand holds of the input as it was before its source brought bytes there.
use Rattle.std.proofs.Common.{◌≡◌, ℕ, Bool, List, Option, Some, None, Result, Ok, Err, IfErr, OnOk, sym, ap₂, subst, arith}
use Rattle.cbor_model.specs.Raw.{Raw}
use Rattle.cbor_model.specs.Reader.{item_at}
use Rattle.cbor_read.specs.Source.{Input, Stays}
use Rattle.cbor_io.specs.declared.error.Error.{Error}
use Rattle.cbor_io.specs.declared.read_error.ReadErrorCode.{ReadErrorCode}
use Rattle.cbor_decode.specs.Decoder.{SameSettings}
use Rattle.cbor_decode.specs.Gives.{Advances, Limits, limits}
use Rattle.cbor_decode.specs.declared.formats.Formats.{Formats}
use Rattle.cbor_decode.proofs.facts.Steps.{none_step}
use Rattle.cbor_decode_as.specs.Takes.{IsRead, MemoryFor, formats_of, raws}
use Rattle.cbor_decode_as.proofs.facts.Readings.{read_gathered}
use Rattle.cbor_de.specs.Calls.{TakesAtHand, TakesGathered}
use Rattle.cbor_de.specs.declared.de.Deserializer.{Deserializer}

pub then_at_hand : {R A : Type 0} (seen : R → Input) (allowed : ReadErrorCode → Bool) (reads : Raw → A → Type 0) (old mid new : Deserializer R) → SameSettings old.decoder mid.decoder → Stays (seen old.decoder.source) (seen mid.decoder.source) → (o : Option A)
    → TakesAtHand seen allowed reads mid new o → TakesGathered seen allowed reads old new o
then_at_hand seen allowed reads old mid new settings stays (Some x) h =
    read_gathered (seen old.decoder.source) (seen mid.decoder.source) stays old.decoder.formats mid.decoder.formats settings.formats allowed (λ f. reads) old.decoder.levels mid.decoder.levels settings.levels (seen new.decoder.source) (Ok x) h
then_at_hand seen allowed reads old mid new settings stays None h = subst (Stays (seen old.decoder.source)) (sym h) stays

-- ---- memory

module _ (s m : Input) (stays : Stays s m) {A : Type 0} (asks : Raw → Type 0) where
  pub memory_gathered : (f g : Formats) → g ≡ f → (reads : Formats → Raw → A → Type 0) (levels left : ℕ) → left ≡ levels → (e : Error)
      → MemoryFor asks (formats_of g) (reads g) left m e → MemoryFor asks (formats_of f) (reads f) levels s e
  memory_gathered f g formats reads levels left same e h ran bs reports =
      let behind = (none_step s m stays.bytes stays.count stays.room).reported bs reports in
      let at : Formats → ℕ → Limits → List ℕ → Type 0 = λ f n l bs. (x : A) (rest : List ℕ) → (got : IsRead (reads f) (item_at (raws (formats_of f) l) n bs) x rest) → asks got.item in
      let limit : limits m behind.rest ≡ limits s bs = ap₂ (λ (n : ℕ) (r : Option ℕ). record { total = n; room = r }) behind.total stays.room in
      subst (λ (x : Formats). at x levels (limits s bs) bs) formats
      (subst (λ (n : ℕ). at g n (limits s bs) bs) same
      (subst (at g left (limits s bs)) (sym behind.holds)
      (subst (λ (l : Limits). at g left l behind.rest) limit (h ran behind.rest behind.reports))))

  pub memory_err_gathered : {X : Type 0} (f g : Formats) → g ≡ f → (reads : Formats → Raw → A → Type 0) (levels left : ℕ) → left ≡ levels → (r : Result X Error)
      → IfErr r (MemoryFor asks (formats_of g) (reads g) left m) → IfErr r (MemoryFor asks (formats_of f) (reads f) levels s)
  memory_err_gathered f g formats reads levels left same (Ok x) h = tt
  memory_err_gathered f g formats reads levels left same (Err e) h = memory_gathered f g formats reads levels left same e h

-- ---- what was taken

pub ok_gathered : {X W : Type 0} (s m t : Input) → Stays s m → (r : Result X W) → OnOk r (Advances m t) → OnOk r (Advances s t)
ok_gathered s m t stays (Ok x) h = record { further = omega (arith, stays.count, h.further); counted = omega (arith, stays.count, h.counted) }
ok_gathered s m t stays (Err w) h = tt
