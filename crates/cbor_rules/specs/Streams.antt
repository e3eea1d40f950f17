-- Reading the items of any source by rules: where a stream stands, and what a call answers.
use Rattle.std.specs.Prelude.{◌≡◌, ◌⊎◌, ℕ, Bool, true, false, List, []}
use Rattle.std.specs.Prelude.{Option, Some, None, Result, Err, IfErr, IfOk, IfSome, MatchResult}
use Rattle.cbor_model.specs.Acceptable.{max_depth}
use Rattle.cbor_model.specs.Formats.{all_formats}
use Rattle.cbor_model.specs.Raw.{Raw}
use Rattle.cbor_model.specs.RawReader.{Begins}
use Rattle.cbor_model.specs.Spelling.{spell}
use Rattle.cbor_io.specs.declared.error.Error.{Error}
use Rattle.cbor_io.specs.declared.read_error.ReadErrorCode.{ReadErrorCode}
use Rattle.cbor_io.specs.Error.{IsFurther, IsOutOfMemory, code_of, offset_of}
use Rattle.cbor_read.specs.Source.{Input, Stays, start_of_slice}
use Rattle.cbor_decode.specs.Gives.{Reports, ReportsIo}
use Rattle.cbor_decode_as.specs.Takes.{ExcusedBy}
use Rattle.cbor_de.specs.Forms.{MayReport, WrongForms}
use Rattle.cbor_de.specs.Whole.{Answers}
use Rattle.cbor_raw.specs.Gathered.{GathersNone}
use Rattle.cbor_rules.specs.Answers.{IfDeparts, IfUnread}
use Rattle.cbor_rules.specs.NextItem.{departure_from}
use Rattle.cbor_rules.specs.RawByRules.{GathersByRules, IsSourceFault, ShowsDeparture}
use Rattle.cbor_rules.specs.Rules.{Terms, under}
use Rattle.cbor_rules.specs.declared.answers.Refusal.{Refusal}
use Rattle.cbor_rules.specs.declared.answers.Refusal.TheVariants.{Unread, Departs}
use Rattle.cbor_rules.specs.declared.stream.RuledStream.{RuledStream}

-- Where a stream stands: its source, the rules with the tags that stand, and whether an item was
-- refused.
pub record Stream : Type 0 where
  pub input : Input
  pub terms : Terms
  pub ended : Bool

-- where a stream stands that gave nothing yet
abbrev pub new_stream : Input → Terms → Stream
new_stream s terms = record { input = s; terms = terms; ended = false }

-- where the program's stream stands, whose source is such an input
abbrev pub stream_at : {R : Type 0} → (R → Input) → RuledStream R → Stream
stream_at source s = record {
  input = source s.de.decoder.source;
  terms = under s.rules s.tags.now;
  ended = s.ended;
}

-- ---- what is read

-- Exactly the bytes of an acceptable item that keeps the rules were taken, which is read as x.
pub record TakesItem {A : Type 0} (reads : Raw → A → Type 0) (terms : Terms) (s t : Input) (x : A)
    : Type 0 where
  pub bytes : List ℕ
  pub taken : GathersByRules terms max_depth s t bytes
  pub read : reads taken.gathered.item.item x

-- Such an item was taken; or nothing is to come, and nothing was taken.
abbrev pub TakesNext : {A : Type 0} → (Raw → A → Type 0) → Terms → Input → Input → Option A → Type 0
TakesNext reads terms s t None = Stays s t × IfSome s.to_come (λ bs. bs ≡ [])
TakesNext reads terms s t (Some x) = TakesItem reads terms s t x

-- A stream gives such an item; or none, where nothing is to come, or an item was refused.
abbrev pub StreamGives : {A : Type 0} → (Raw → A → Type 0) → Stream → Stream → Option A → Type 0
StreamGives reads s t None = Stays s.input t.input × (t.ended ≡ s.ended)
    × ((s.ended ≡ true) ⊎ IfSome s.input.to_come (λ bs. bs ≡ []))
StreamGives reads s t (Some x) = TakesItem reads s.terms s.input t.input x × (t.ended ≡ s.ended)
    × (s.ended ≡ false)

-- the item is read so
abbrev pub IsReadAs : {A : Type 0} → (Raw → A → Type 0) → Raw → Option A → Type 0
IsReadAs reads item None = ⊥
IsReadAs reads item (Some x) = reads item x

-- ---- what is refused

-- A type refuses an item that begins at this offset: by the error that reading the item's bytes alone
-- answers, so much further into the input.
pub record RefusesAs {A : Type 0} (passes_over total reports_faults : Bool) (wrong_forms : WrongForms)
    (reads : Raw → A → Type 0) (asks : Raw → Type 0) (start : ℕ) (item : Raw) (e : Error) : Type 0 where
  pub alone : Error
  pub further : IsFurther start alone e
  pub answers : Answers passes_over total reports_faults reads asks IsOutOfMemory None (spell item)
      (Err alone)
  pub form : MayReport wrong_forms all_formats (start_of_slice (spell item) None) alone

-- A refusal of an item that begins at this offset: its first departure, or by its type; or memory ran
-- out, or the source reported a fault.
abbrev pub AnswersItem : (ReadErrorCode → Bool) → (ℕ → Raw → Error → Type 0) → Terms → ℕ → Raw
    → Refusal → Type 0
AnswersItem refusals refuses terms start item (Departs d) = departure_from start terms item ≡ Some d
AnswersItem refusals refuses terms start item (Unread e) =
    ExcusedBy (ReportsIo refusals) (code_of e) (offset_of e) ⊎ refuses start item e

-- Exactly the bytes of an acceptable item that keeps the rules were taken, which is refused.
pub record RefusesItem (refuses : ℕ → Raw → Error → Type 0) (terms : Terms) (s t : Input) (e : Error)
    : Type 0 where
  pub bytes : List ℕ
  pub taken : GathersByRules terms max_depth s t bytes
  pub refused : refuses s.offset taken.gathered.item.item e

-- A refusal that is no departure: no acceptable item is to come, memory ran out, or the source reported
-- a fault; or of an item that keeps the rules.
abbrev pub RefusesItemOrNone : (ReadErrorCode → Bool) → (ℕ → Raw → Error → Type 0) → Terms → Input
    → Input → Error → Type 0
RefusesItemOrNone refusals refuses terms s t e =
    GathersNone refusals max_depth s t e ⊎ RefusesItem refuses terms s t e

-- ---- what is answered

-- What a call answers that takes the next item of a source by the rules, and reads it; refuses is how its
-- type refuses an item.
pub record AnswersNextItem {A : Type 0} (refusals : ReadErrorCode → Bool) (reads : Raw → A → Type 0)
    (refuses : ℕ → Raw → Error → Type 0) (terms : Terms) (s t : Input) (result : Result (Option A) Refusal)
    : Type 0 where
  -- An acceptable item that keeps the rules was to come, it is read so, and it alone is taken; or nothing is
  -- to come.
  pub found : IfOk result (TakesNext reads terms s t)
  -- The acceptable item that is to come is the one that is read; or its first departure is told, the type
  -- refuses it, memory ran out, or the source reported a fault.
  pub every : (bs : List ℕ) (item : Raw) (rest : List ℕ) → Reports s bs → Begins max_depth bs item rest
      → MatchResult result (IsReadAs reads item) (AnswersItem refusals refuses terms s.offset item)
  -- A departure is shown by the bytes that were taken.
  pub departed : IfErr result (IfDeparts (ShowsDeparture terms max_depth s t))
  -- Where another refusal comes no acceptable item is to come, memory ran out or the source reported a
  -- fault; or the item was taken, which keeps the rules, and the type refuses it.
  pub unread : IfErr result (IfUnread (RefusesItemOrNone refusals refuses terms s t))
  -- At the end of the input it is refused by a fault of the source alone.
  pub at_end : Reports s [] → IfErr result (IsSourceFault refusals)
