-- What reading by rules answers.
use Rattle.std.specs.Prelude.{◌≡◌, ◌⊎◌, Bool, List, ℕ, None, Result, Some, IfErr, IfOk, MatchResult, true}
use Rattle.cbor_model.specs.Allowed.{limits_of}
use Rattle.cbor_model.specs.Formats.{all_formats}
use Rattle.cbor_model.specs.Laws.{SpellsValue}
use Rattle.cbor_model.specs.Plain.{Val}
use Rattle.cbor_model.specs.Raw.{Raw}
use Rattle.cbor_model.specs.Readable.{SpellsAs}
use Rattle.cbor_io.specs.declared.error.Error.{Error}
use Rattle.cbor_io.specs.Error.{IsOutOfMemory}
use Rattle.cbor_read.specs.Source.{start_of_slice}
use Rattle.cbor_decode.specs.FirstRefusal.{ReportsFirst}
use Rattle.cbor_decode_as.specs.Takes.{WhereTotal}
use Rattle.cbor_de.specs.Forms.{MayReport, WrongForms}
use Rattle.cbor_de.specs.Calls.{reports_any}
use Rattle.cbor_de.specs.Whole.{RefusesUnread, ReportsOwn}
use Rattle.cbor_rules.specs.Rules.{Terms, Keeps, first_departure, is_unique}
use Rattle.cbor_rules.specs.Unique.{HasPair}
use Rattle.cbor_rules.specs.declared.answers.Departure.{Departure}
use Rattle.cbor_rules.specs.declared.answers.Refusal.{Refusal}
use Rattle.cbor_rules.specs.declared.answers.Refusal.TheVariants.{Unread, Departs}

-- The bytes are the encoding of one acceptable item that keeps each rule that is on, and it is read
-- as x.
pub record SpellsByRules {A : Type 0} (terms : Terms) (reads : Raw → A → Type 0)
    (bytes : List ℕ) (x : A) : Type 0 where
  pub spelt : SpellsAs all_formats reads bytes x
  pub keeps : Keeps terms spelt.item

-- memory ran out
abbrev pub IsMemory : Refusal → Type 0
IsMemory (Unread e) = IsOutOfMemory e
IsMemory (Departs d) = ⊥

-- It reports the item's first departure; or memory ran out.
abbrev pub ReportsItsDeparture : Terms → Raw → Refusal → Type 0
ReportsItsDeparture terms item (Unread e) = IsOutOfMemory e
ReportsItsDeparture terms item (Departs d) = first_departure terms item ≡ Some d

-- The bytes are the encoding of one acceptable item, which departs so first.
pub record SpellsDeparting (terms : Terms) (bytes : List ℕ) (d : Departure) : Type 0 where
  pub tree : Val
  pub spelt : SpellsValue bytes tree
  pub departs : first_departure terms spelt.item ≡ Some d

-- Of a departure, and of another refusal.
abbrev pub IfDeparts : (Departure → Type 0) → Refusal → Type 0
IfDeparts P (Unread e) = Unit {0}
IfDeparts P (Departs d) = P d

abbrev pub IfUnread : (Error → Type 0) → Refusal → Type 0
IfUnread P (Unread e) = P e
IfUnread P (Departs d) = Unit {0}

-- What a call answers that reads these bytes, the whole of them, as a type, and then goes over them by the
-- rules.
pub record AnswersByRules {A : Type 0} (passes_over total reports_faults : Bool)
    (wrong_forms : WrongForms) (reads : Raw → A → Type 0) (asks : Raw → Type 0) (terms : Terms)
    (bytes : List ℕ) (result : Result A Refusal) : Type 0 where
  -- The bytes encode an acceptable item that keeps the rules, and it is read so.
  pub found : IfOk result (SpellsByRules terms reads bytes)
  -- Each such item is read, unless memory runs out.
  pub accepted : (x : A) → SpellsByRules terms reads bytes x → IfErr result IsMemory
  -- An item that the type reads is refused by its first departure alone.
  pub departs : (x : A) → (spelt : SpellsAs all_formats reads bytes x)
      → IfErr result (ReportsItsDeparture terms spelt.item)
  -- The acceptable item that the bytes encode is the one that is read; and where the type reads every
  -- item, it is refused by its first departure alone.
  pub every : (v : Val) → (spelt : SpellsValue bytes v) → MatchResult result (reads spelt.item)
      (λ e. WhereTotal total (ReportsItsDeparture terms spelt.item e))
  -- A departure that is reported is the first of the acceptable item that the bytes encode.
  pub departed : IfErr result (IfDeparts (SpellsDeparting terms bytes))
  -- Another refusal is that of the reading: where the type reads every item, the first that the bytes
  -- allow, or memory ran out;
  pub first : IfErr result (IfUnread (λ e. WhereTotal total
      (IsOutOfMemory e ⊎ ReportsFirst (limits_of None) bytes e)))
  -- a type that passes over an item that it doesn't read refuses it by a message, and other bytes by their
  -- first refusal;
  pub fault : IfErr result (IfUnread (λ e. WhereTotal passes_over
      (IsOutOfMemory e ⊎ RefusesUnread reads None bytes e)))
  -- one that reports the faults of the bytes reports the first that they allow, where its code is that of one;
  pub own_fault : IfErr result (IfUnread
      (ReportsOwn (reports_any passes_over total reports_faults) IsOutOfMemory None bytes))
  -- and a wrong form is reported as the type may report it.
  pub form : IfErr result (IfUnread (MayReport wrong_forms all_formats (start_of_slice bytes None)))
  -- Memory runs out only for an item for which the type may ask for it, or where each value may be a key
  -- once and some map in the item has a pair.
  pub memory : (x : A) → (spelt : SpellsAs all_formats reads bytes x)
      → IfErr result (IfUnread (λ e. asks spelt.item
      ⊎ ((is_unique terms.rules.keys ≡ true) × HasPair spelt.item)))
