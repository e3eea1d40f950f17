-- What strict reading answers where it refuses.
use Rattle.std.specs.Prelude.{◌≡◌, ◌⊎◌, ℕ, ◌<◌, Bool, List, None, Result, IfErr, IfOk, MatchResult}
use Rattle.cbor_model.specs.Formats.{all_formats}
use Rattle.cbor_model.specs.Laws.{SpellsValue}
use Rattle.cbor_model.specs.Plain.{Val}
use Rattle.cbor_model.specs.Raw.{Raw}
use Rattle.cbor_model.specs.Readable.{SpellsAs}
use Rattle.cbor_io.specs.declared.error.Error.{Error}
use Rattle.cbor_io.specs.declared.error.ErrorCode.{ErrorCode}
use Rattle.cbor_io.specs.declared.error.ErrorCode.TheVariants.{NotCanonical}
use Rattle.cbor_io.specs.Error.{code_of, offset_of, IsOutOfMemory}
use Rattle.cbor_read.specs.Source.{start_of_slice}
use Rattle.cbor_decode.specs.FirstRefusal.{refusal_code}
use Rattle.cbor_decode_as.specs.Takes.{WhereTotal}
use Rattle.cbor_de.specs.Forms.{WrongForms, MayReport}
use Rattle.cbor_de.specs.Calls.{reports_any}
use Rattle.cbor_de.specs.Whole.{RefusesUnread, ReportsOwn}
use Rattle.cbor_strict.specs.Departure.{IsFirstDeparture, ShowsDeparture}
use Rattle.cbor_strict.specs.Strict.{IsFirstShown, SpellsCanonicallyAs}
use Rattle.cbor_strict.specs.StrictRefusals.{StrictRefusal, ordinary, not_canonical}
use Rattle.cbor_strict.specs.StrictRefusals.{IsFirstStrictRefusal}

-- the code of a refusal
abbrev pub strict_code : StrictRefusal → ErrorCode
strict_code (ordinary why) = refusal_code why
strict_code not_canonical = NotCanonical

-- The error reports the first refusal that the bytes allow: by its code, and at its offset.
pub record ReportsFirstStrictly (bytes : List ℕ) (e : Error) : Type 0 where
  pub why : StrictRefusal
  pub code : code_of e ≡ strict_code why
  pub first : IsFirstStrictRefusal bytes why (offset_of e)

-- Of an item that is read otherwise: its first departure; or memory ran out.
abbrev pub ReportsItsDeparture : Raw → Error → Type 0
ReportsItsDeparture r e =
    IsOutOfMemory e ⊎ ((code_of e ≡ NotCanonical) × IsFirstDeparture r (offset_of e))

-- The first departure that the bytes show; or an offset before each of them.
abbrev pub PassesNoDeparture : List ℕ → Error → Type 0
PassesNoDeparture bytes e =
    ((code_of e ≡ NotCanonical) × IsFirstShown bytes (offset_of e))
    ⊎ ((i : ℕ) → ShowsDeparture bytes i → offset_of e < i)

-- A departure is reported; or no wrong form but one that the type may report.
abbrev pub DepartureOrForm : WrongForms → List ℕ → Error → Type 0
DepartureOrForm forms bytes e =
    (code_of e ≡ NotCanonical) ⊎ MayReport forms all_formats (start_of_slice bytes None) e

-- What a call answers that reads these bytes, the whole of them, as a type, if they are a canonical encoding.
pub record AnswersStrictly {A : Type 0} (passes_over total reports_faults : Bool)
    (wrong_forms : WrongForms) (reads : Raw → A → Type 0) (asks : Raw → Type 0) (bytes : List ℕ)
    (result : Result A Error) : Type 0 where
  -- The bytes are the canonical encoding of an item, and it is read so.
  pub found : IfOk result (SpellsCanonicallyAs reads bytes)
  -- Each such item is read, unless memory runs out.
  pub accepted : (x : A) → SpellsCanonicallyAs reads bytes x → IfErr result IsOutOfMemory
  -- An item that the type reads otherwise is refused by its first departure alone.
  pub departs : (x : A) → (spelt : SpellsAs all_formats reads bytes x)
      → IfErr result (ReportsItsDeparture spelt.item)
  -- The acceptable item that the bytes encode is the one that is read; and where the type reads every
  -- item, it is refused by its first departure alone.
  pub every : (v : Val) → (spelt : SpellsValue bytes v) → MatchResult result (reads spelt.item)
      (λ e. WhereTotal total (ReportsItsDeparture spelt.item e))
  -- A refusal of it is the first that the bytes allow, or memory ran out.
  pub refused : IfErr result (λ e. WhereTotal total (IsOutOfMemory e ⊎ ReportsFirstStrictly bytes e))
  -- A type that passes over an item that it doesn't read refuses it by a message, and other bytes by their
  -- first refusal, unless it reports a departure.
  pub fault : IfErr result (λ e. WhereTotal passes_over
      ((code_of e ≡ NotCanonical) ⊎ IsOutOfMemory e ⊎ RefusesUnread reads None bytes e))
  -- One that reports the faults of the bytes reports the first that they allow where its code is that of a
  -- fault.
  pub own_fault : IfErr result
      (ReportsOwn (reports_any passes_over total reports_faults) IsOutOfMemory None bytes)
  -- Memory runs out only for an item for which the type may ask for it.
  pub memory : (x : A) → (spelt : SpellsAs all_formats reads bytes x)
      → IfErr result (λ e. IsOutOfMemory e → asks spelt.item)
  -- Of any type: no departure stands before what is reported.
  pub earliest : IfErr result (PassesNoDeparture bytes)
  -- Another wrong form is reported by a code, and at a place, that the type may report it by and at.
  pub form : IfErr result (DepartureOrForm wrong_forms bytes)
