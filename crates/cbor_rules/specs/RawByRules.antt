-- Taking the bytes of an item that keeps rules: what of a source a call takes.
use Rattle.std.specs.Prelude.{◌≡◌, ◌⊎◌, ℕ, ◌^◌, ◌<◌, Bool, List, [], ◌++◌, length, Option, Some, None}
use Rattle.std.specs.Prelude.{Result, IfErr, IfOk, IfSome, MatchResult}
use Rattle.cbor_model.specs.Raw.{Raw}
use Rattle.cbor_model.specs.RawReader.{Begins}
use Rattle.cbor_model.specs.Spelling.{spell}
use Rattle.cbor_io.specs.Error.{code_of, offset_of}
use Rattle.cbor_io.specs.declared.error.ErrorCode.{ErrorCode}
use Rattle.cbor_io.specs.declared.error.ErrorCode.TheVariants.{Io}
use Rattle.cbor_io.specs.declared.read_error.ReadErrorCode.{ReadErrorCode}
use Rattle.cbor_read.specs.Source.{Input, Stays, TookKept}
use Rattle.cbor_decode.specs.Gives.{Reports, ReportsIo}
use Rattle.cbor_decode_as.specs.Takes.{ExcusedBy}
use Rattle.cbor_value.specs.RawBytes.{raw_bytes}
use Rattle.cbor_value.specs.declared.raw_value.RawValue.{RawValue}
use Rattle.cbor_pushed.specs.ItemAtFront.{HasItem, IsUnfinished}
use Rattle.cbor_raw.specs.Gathered.{GathersNone, IsGathered}
use Rattle.cbor_rules.specs.Answers.{IfDeparts, IfUnread}
use Rattle.cbor_rules.specs.NextItem.{departure_from}
use Rattle.cbor_rules.specs.Rules.{Terms, Keeps}
use Rattle.cbor_rules.specs.declared.answers.Departure.{Departure}
use Rattle.cbor_rules.specs.declared.answers.Refusal.{Refusal}
use Rattle.cbor_rules.specs.declared.answers.Refusal.TheVariants.{Unread, Departs}

-- Exactly these bytes were taken, and they are one acceptable item, which keeps each rule that is on.
pub record GathersByRules (terms : Terms) (levels : ℕ) (s t : Input) (bytes : List ℕ) : Type 0 where
  pub gathered : IsGathered levels s t bytes
  pub keeps : Keeps terms gathered.item.item

-- Such an item was taken; or nothing is to come, and nothing was taken.
abbrev pub GathersNext : Terms → ℕ → Input → Input → Option RawValue → Type 0
GathersNext terms levels s t None = Stays s t × IfSome s.to_come (λ bs. bs ≡ [])
GathersNext terms levels s t (Some v) = GathersByRules terms levels s t (raw_bytes v)

-- the bytes are those of the item
abbrev pub IsItem : Raw → Option RawValue → Type 0
IsItem item None = ⊥
IsItem item (Some v) = raw_bytes v ≡ spell item

-- These bytes are an acceptable item; or they are the front of one, for all that they show.
abbrev pub MayBegin : ℕ → List ℕ → Type 0
MayBegin levels front = HasItem levels front (length front) ⊎ IsUnfinished levels front

-- The bytes that were taken show the departure: each acceptable item that begins with them, whatever
-- follows, departs so first.
pub record ShowsDeparture (terms : Terms) (levels : ℕ) (s t : Input) (d : Departure) : Type 0 where
  pub front : List ℕ
  pub took : TookKept s t front
  pub may_begin : MayBegin levels front
  pub departs : (more : List ℕ) (item : Raw) (rest : List ℕ) → length (front ++ more) < 2 ^ 64
      → Begins levels (front ++ more) item rest → departure_from s.offset terms item ≡ Some d

-- It reports the item's first departure; or memory ran out, or the source reported a fault.
abbrev pub ReportsDepartureOrFault : (ReadErrorCode → Bool) → ℕ → Terms → Raw → Refusal → Type 0
ReportsDepartureOrFault refusals start terms item (Unread e) =
    ExcusedBy (ReportsIo refusals) (code_of e) (offset_of e)
ReportsDepartureOrFault refusals start terms item (Departs d) =
    departure_from start terms item ≡ Some d

-- the source reported a fault, where it can have one
abbrev pub IsSourceFaultBy : Type 0 → ErrorCode → ℕ → Type 0
IsSourceFaultBy Device (Io fault) at = Device × (at ≡ 0)
IsSourceFaultBy Device _ at = ⊥

abbrev pub IsSourceFault : (ReadErrorCode → Bool) → Refusal → Type 0
IsSourceFault refusals (Unread e) = IsSourceFaultBy (ReportsIo refusals) (code_of e) (offset_of e)
IsSourceFault refusals (Departs d) = ⊥

-- What a call answers that takes the bytes of the next item by the rules.
pub record AnswersNextRaw (refusals : ReadErrorCode → Bool) (terms : Terms) (levels : ℕ) (s t : Input)
    (result : Result (Option RawValue) Refusal) : Type 0 where
  -- Exactly these bytes were taken, and they are one acceptable item that keeps the rules; or nothing is to
  -- come, and nothing was taken.
  pub found : IfOk result (GathersNext terms levels s t)
  -- Of the acceptable item that is to come, the bytes are taken; or its first departure is told, or memory
  -- ran out, or the source reported a fault.
  pub every : (bs : List ℕ) (item : Raw) (rest : List ℕ) → Reports s bs → Begins levels bs item rest
      → MatchResult result (IsItem item) (ReportsDepartureOrFault refusals s.offset terms item)
  -- A departure is shown by the bytes that were taken.
  pub departed : IfErr result (IfDeparts (ShowsDeparture terms levels s t))
  -- Where another refusal comes no acceptable item is to come, but where memory ran out or the source
  -- reported a fault.
  pub unread : IfErr result (IfUnread (GathersNone refusals levels s t))
  -- At the end of the input it is refused by a fault of the source alone.
  pub at_end : Reports s [] → IfErr result (IsSourceFault refusals)
