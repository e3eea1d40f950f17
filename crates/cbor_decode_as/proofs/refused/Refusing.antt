-- Refusals of one reading after another.
use Rattle.std.proofs.Common.{◌≡◌, ◌+◌, length, inl, inr, ℕ, Bool, List, Option, Err, sym, ap₂, subst}
use Rattle.cbor_model.specs.Reader.{Fault, Reads}
use Rattle.cbor_read.specs.Source.{Input, TookSome}
use Rattle.cbor_io.specs.Error.{code_of, offset_of}
use Rattle.cbor_io.specs.declared.error.Error.{Error}
use Rattle.cbor_io.specs.declared.error.ErrorCode.{ErrorCode}
use Rattle.cbor_io.specs.declared.error.ErrorCode.TheVariants as code
use Rattle.cbor_io.specs.declared.read_error.ReadError.{ReadError}
use Rattle.cbor_io.specs.declared.read_error.ReadErrorCode.{ReadErrorCode}
use Rattle.cbor_decode.specs.declared.refusal.Refused.{Refused}
use Rattle.cbor_decode.specs.Gives.{Limits, limits, Reports, Step, Stopped, ReportsIo, IsErrorOf}
use Rattle.cbor_decode_as.specs.Takes.{ExcusedBy, Refuses, ReportsFault}
use Rattle.cbor_decode.proofs.facts.Steps.{some_then}
use Rattle.cbor_decode_as.proofs.numbers.Scalars.{excused_or, reported_by}

-- ---- refusals

-- N is said, or the error is excused
module _ (allowed : ReadErrorCode → Bool) (s : Input) (k : ErrorCode) (at : ℕ) where
  pub refuses_map : {w : Input} (N N' : Limits → List ℕ → Type 0) → ((l : Limits) (bs : List ℕ) → N l bs → N' l bs) → Refuses allowed s w k at N → Refuses allowed s w k at N'
  refuses_map N N' on h = record {
    took = h.took;
    reported = λ bs reports. elim (h.reported bs reports) [
      | inl e ↦ inl e
      | inr n ↦ inr (on (limits s bs) bs n)
    ];
  }

  -- whatever N is, where an allocation failed
  pub refuses_memory : {t : Input} (N : Limits → List ℕ → Type 0) → k ≡ code.OutOfMemory → at ≡ 0 → TookSome s t → Refuses allowed s t k at N
  refuses_memory N is none took = record { took = took; reported = λ bs reports. inl (subst (λ (c : ErrorCode). ExcusedBy (ReportsIo allowed) c at) (sym is) none) }

  -- after a step
  pub refuses_then : {w : Input} (t : Input) (P : Limits → List ℕ → List ℕ → Type 0) (N N' : Limits → List ℕ → Type 0) → ((l : Limits) (bs mid : List ℕ) → P l bs mid → N l mid → N' l bs) → Step s t P → Refuses allowed t w k at N → Refuses allowed s w k at N'
  refuses_then {w = w} t P N N' on step h = record {
    took = some_then s t w step.took h.took;
    reported = λ bs reports.
        let one = step.reported bs reports in
        let same : limits t one.rest ≡ limits s bs = ap₂ (λ (n : ℕ) (r : Option ℕ). record { total = n; room = r }) one.total step.took.room in
        elim (h.reported one.rest one.reports) [
          | inl e ↦ inl e
          | inr n ↦ inr (on (limits s bs) bs one.rest one.holds (subst (λ (l : Limits). N l one.rest) same n))
        ];
  }

  -- N is said of what a step reports
  pub refuses_by : (t : Input) (P : Limits → List ℕ → List ℕ → Type 0) (N : Limits → List ℕ → Type 0) → ((l : Limits) (bs rest : List ℕ) → P l bs rest → N l bs) → Step s t P → Refuses allowed s t k at N
  refuses_by t P N on step = record { took = step.took; reported = λ bs reports. inr (on (limits s bs) bs (step.reported bs reports).rest (step.reported bs reports).holds) }

-- ---- errors that report a fault

-- what a fault stops can't be read
pub refuses_fault : {A : Type 0} {t : Input} (allowed : ReadErrorCode → Bool) (read : Limits → List ℕ → Reads A) (s : Input) (e : Error) (N : Limits → List ℕ → Type 0)
    → ((l : Limits) (bs : List ℕ) (f : Fault) → read l bs ≡ Err f → N l bs)
    → TookSome s t → ReportsFault allowed read s e → Refuses allowed s t (code_of e) (offset_of e) N
refuses_fault allowed read s e N on took fails = record {
  took = took;
  reported = λ bs reports. elim (excused_or (ReportsIo allowed) (code_of e) (s.offset + length bs) (offset_of e) (read (limits s bs) bs) (fails bs reports)) [
    | inl x ↦ inl x
    | inr h ↦ inr (on (limits s bs) bs h.0 h.1)
  ];
}

pub refuses_stopped : {A : Type 0} {w : Input} (allowed : ReadErrorCode → Bool) (read : Limits → List ℕ → Reads A) (s : Input) (kept : ReadError) (r : Refused) (e : Error) (N : Limits → List ℕ → Type 0)
    → ((l : Limits) (bs : List ℕ) (f : Fault) → read l bs ≡ Err f → N l bs) → IsErrorOf kept r e → Stopped allowed read s w kept r → Refuses allowed s w (code_of e) (offset_of e) N
refuses_stopped allowed read s kept r e N on is h = refuses_fault allowed read s e N on h.took (reported_by allowed read s kept r e is h)

-- ---- memory

-- Where memory ran out, Q holds of the limits and of the bytes to come.
abbrev pub OutOfMemoryAt : (Limits → List ℕ → Type 0) → Input → Error → Type 0
OutOfMemoryAt Q s e = code_of e ≡ code.OutOfMemory → (bs : List ℕ) → Reports s bs → Q (limits s bs) bs

-- after a step
pub memory_then : (s m : Input) (e : Error) (P : Limits → List ℕ → List ℕ → Type 0) (Q Q' : Limits → List ℕ → Type 0) → ((l : Limits) (bs mid : List ℕ) → P l bs mid → Q l mid → Q' l bs) → Step s m P → OutOfMemoryAt Q m e → OutOfMemoryAt Q' s e
memory_then s m e P Q Q' on step h out bs reports =
    let one = step.reported bs reports in
    let same : limits m one.rest ≡ limits s bs = ap₂ (λ (n : ℕ) (r : Option ℕ). record { total = n; room = r }) one.total step.took.room in
    on (limits s bs) bs one.rest one.holds (subst (λ (l : Limits). Q l one.rest) same (h out one.rest one.reports))

-- of what a step reports
pub memory_by : (s m : Input) (e : Error) (P : Limits → List ℕ → List ℕ → Type 0) (Q : Limits → List ℕ → Type 0) → ((l : Limits) (bs mid : List ℕ) → P l bs mid → Q l bs) → Step s m P → OutOfMemoryAt Q s e
memory_by s m e P Q on step out bs reports = on (limits s bs) bs (step.reported bs reports).rest (step.reported bs reports).holds
