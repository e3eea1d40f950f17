-- What a call gave holds of the input as it was before its source brought bytes to hand.
use Rattle.std.proofs.Common.{◌≡◌, ◌+◌, length, ℕ, Bool, List, Option, Some, None, Result, Ok, Err, IfErr, OnOk, OnSome, sym, ap₂, subst, arith}
use Rattle.cbor_model.specs.Plain.{Val}
use Rattle.cbor_model.specs.Raw.{Raw}
use Rattle.cbor_model.specs.Reader.{Reads, item_at}
use Rattle.cbor_read.specs.Source.{Input, Stays}
use Rattle.cbor_io.specs.Error.{code_of, offset_of}
use Rattle.cbor_io.specs.declared.error.Error.{Error}
use Rattle.cbor_io.specs.declared.read_error.ReadErrorCode.{ReadErrorCode}
use Rattle.cbor_decode.specs.Decoder.{SameSettings}
use Rattle.cbor_decode.specs.Gives.{Advances, Limits, limits, ReportsIo, Step}
use Rattle.cbor_decode.specs.declared.Decoder.{Decoder}
use Rattle.cbor_decode.specs.declared.formats.Formats.{Formats}
use Rattle.cbor_decode.proofs.facts.Steps.{step_then, none_step}
use Rattle.cbor_decode_as.specs.DecoderCalls as call
use Rattle.cbor_decode_as.specs.Takes.{FaultOrMessage, IsRead, IsNotRead, RefusesWhole, TakesItem, any_item, formats_of, raws}
use Rattle.cbor_decode_as.proofs.refused.Refusing.{refuses_then}

abbrev Same : Limits → List ℕ → List ℕ → Type 0
Same l bs rest = bs ≡ rest

module _ (s m : Input) (stays : Stays s m) where
  same_step : Step s m Same
  same_step = none_step s m stays.bytes stays.count stays.room

  item_gathered : {A : Type 0} (allowed : ReadErrorCode → Bool) (f : Formats) (reads : Raw → A → Type 0) (levels : ℕ) (t : Input) (r : Result A Error) → TakesItem allowed (formats_of f) reads levels m t r → TakesItem allowed (formats_of f) reads levels s t r
  item_gathered allowed f reads levels t (Ok x) h =
      let P : Limits → List ℕ → List ℕ → Type 0 = λ l bs rest. IsRead reads (item_at (raws (formats_of f) l) levels bs) x rest in
      step_then s m t Same P P (λ l bs mid rest same got. subst (λ (b : List ℕ). P l b rest) (sym same) got) same_step h
  item_gathered allowed f reads levels t (Err e) h =
      let N : Limits → List ℕ → Type 0 = λ l bs. IsNotRead reads (item_at (raws (formats_of f) l) levels bs) in
      refuses_then allowed s (code_of e) (offset_of e) m Same N N (λ l bs mid same none. subst (λ (b : List ℕ). N l b) (sym same) none) same_step h

  pub whole_gathered : (allowed : ReadErrorCode → Bool) (levels : ℕ) (e : Error) → RefusesWhole allowed levels m e → RefusesWhole allowed levels s e
  whole_gathered allowed levels e h bs reports =
      let behind = same_step.reported bs reports in
      let D = ReportsIo allowed in
      let same : limits m behind.rest ≡ limits s bs = ap₂ (λ (n : ℕ) (r : Option ℕ). record { total = n; room = r }) behind.total stays.room in
      let here = subst (λ (n : ℕ). FaultOrMessage D (code_of e) n (offset_of e) (any_item levels (limits m behind.rest) behind.rest)) behind.total (h behind.rest behind.reports) in
      subst (λ (r : Reads Val). FaultOrMessage D (code_of e) (s.offset + length bs) (offset_of e) r) (ap₂ (any_item levels) same (sym behind.holds)) here

  pub whole_err_gathered : {A : Type 0} (allowed : ReadErrorCode → Bool) (levels left : ℕ) → left ≡ levels → (r : Result A Error) → IfErr r (RefusesWhole allowed left m) → IfErr r (RefusesWhole allowed levels s)
  whole_err_gathered allowed levels left same (Ok x) h = tt
  whole_err_gathered allowed levels left same (Err e) h = whole_gathered allowed levels e (subst (λ (n : ℕ). RefusesWhole allowed n m e) same h)

  pub advances_gathered : (t : Input) → Advances m t → Advances s t
  advances_gathered t h = record { further = omega (arith, stays.count, h.further); counted = omega (arith, stays.count, h.counted) }

  pub ok_gathered : {X W : Type 0} (t : Input) (r : Result X W) → OnOk r (Advances m t) → OnOk r (Advances s t)
  ok_gathered t (Ok x) h = advances_gathered t h
  ok_gathered t (Err w) h = tt

  pub some_gathered : {X : Type 0} (t : Input) (o : Option X) → OnSome o (Advances m t) → OnSome o (Advances s t)
  some_gathered t (Some x) h = advances_gathered t h
  some_gathered t None h = tt

  -- the same, of a decoder whose settings are still to be seen as the same
  pub read_gathered : {A : Type 0} (f g : Formats) → g ≡ f → (allowed : ReadErrorCode → Bool) (reads : Formats → Raw → A → Type 0) (levels left : ℕ) → left ≡ levels → (t : Input) (r : Result A Error)
      → TakesItem allowed (formats_of g) (reads g) left m t r → TakesItem allowed (formats_of f) (reads f) levels s t r
  read_gathered f g formats allowed reads levels left same t r h =
      item_gathered allowed f (reads f) levels t r
      (subst (λ (x : Formats). TakesItem allowed (formats_of x) (reads x) levels m t r) formats
      (subst (λ (n : ℕ). TakesItem allowed (formats_of g) (reads g) n m t r) same h))

-- what is found at hand then was gathered
pub hand_gathered : {R A : Type 0} (seen : R → Input) (allowed : ReadErrorCode → Bool) (reads : Formats → Raw → A → Type 0) (old mid new : Decoder R) → SameSettings old mid → Stays (seen old.source) (seen mid.source) → (o : Option A)
    → call.TakesAtHand seen allowed (reads mid.formats) mid new o → call.TakesGathered seen allowed (reads old.formats) old new o
hand_gathered seen allowed reads old mid new settings stays (Some x) h =
    read_gathered (seen old.source) (seen mid.source) stays old.formats mid.formats settings.formats allowed reads old.levels mid.levels settings.levels (seen new.source) (Ok x) h
hand_gathered seen allowed reads old mid new settings stays None h = subst (Stays (seen old.source)) (sym h) stays
