-- What reading answers where the bytes are gone over by the rules first.
use Rattle.std.specs.Prelude.{◌≡◌, ◌⊎◌, ℕ, Bool, List, true, None, Result, IfErr, IfOk, IsErrAnd, MatchResult}
use Rattle.cbor_model.specs.Allowed.{limits_of}
use Rattle.cbor_model.specs.Formats.{all_formats}
use Rattle.cbor_model.specs.Laws.{SpellsValue}
use Rattle.cbor_model.specs.Plain.{Val}
use Rattle.cbor_model.specs.Raw.{Raw}
use Rattle.cbor_io.specs.Error.{IsOutOfMemory}
use Rattle.cbor_decode.specs.FirstRefusal.{ReportsFirst}
use Rattle.cbor_decode.specs.HasChunks.{HasChunks}
use Rattle.cbor_read.specs.Source.{start_of_slice}
use Rattle.cbor_decode_as.specs.Takes.{WhereTotal}
use Rattle.cbor_de.specs.Forms.{MayReport, WrongForms}
use Rattle.cbor_de.specs.Calls.{reports_any}
use Rattle.cbor_de.specs.Whole.{RefusesUnread, ReportsOwn}
use Rattle.cbor_rules.specs.Answers.{IfDeparts, IfUnread, IsMemory, ReportsItsDeparture}
use Rattle.cbor_rules.specs.Answers.{SpellsByRules, SpellsDeparting}
use Rattle.cbor_rules.specs.Rules.{Terms, is_unique}
use Rattle.cbor_rules.specs.Unique.{HasPair}
use Rattle.cbor_rules.specs.declared.answers.Departure.{Departure}
use Rattle.cbor_rules.specs.declared.answers.Refusal.{Refusal}
use Rattle.cbor_rules.specs.declared.answers.Refusal.TheVariants.{Unread, Departs}
use Rattle.cbor_rules.specs.declared.settings.Rules.{Rules}

-- The bytes are the encoding of no acceptable item.
abbrev pub EncodeNone : List ℕ → Type 0
EncodeNone bytes = (v : Val) → SpellsValue bytes v → ⊥

-- It reports the first refusal that the bytes allow; or memory ran out.
abbrev pub ReportsFirstRefusal : List ℕ → Refusal → Type 0
ReportsFirstRefusal bytes (Unread e) = IsOutOfMemory e ⊎ ReportsFirst (limits_of None) bytes e
ReportsFirstRefusal bytes (Departs d) = ⊥

-- For which items it may take memory to go over them by the rules: those that have a string in
-- chunks; and, where each value may be a key once, those with a map that has a pair.
abbrev pub AsksToCheck : Rules → Raw → Type 0
AsksToCheck rules item = HasChunks item ⊎ ((is_unique rules.keys ≡ true) × HasPair item)

-- What a call answers that goes over these bytes, the whole of them, by the rules, and then reads them as a
-- type.
pub record AnswersChecked {A : Type 0} (passes_over total reports_faults : Bool)
    (wrong_forms : WrongForms) (reads : Raw → A → Type 0) (asks : Raw → Type 0) (terms : Terms)
    (bytes : List ℕ) (result : Result A Refusal) : Type 0 where
  -- The bytes encode an acceptable item that keeps the rules, and it is read so.
  pub found : IfOk result (SpellsByRules terms reads bytes)
  -- Each such item is read, unless memory runs out.
  pub accepted : (x : A) → SpellsByRules terms reads bytes x → IfErr result IsMemory
  -- The acceptable item that the bytes encode is the one that is read; and where the type reads every
  -- item, it is refused by its first departure alone.
  pub every : (v : Val) → (spelt : SpellsValue bytes v) → MatchResult result (reads spelt.item)
      (λ e. WhereTotal total (ReportsItsDeparture terms spelt.item e))
  -- An acceptable item that departs is refused by its first departure alone, whatever the type.
  pub departs : (d : Departure) → (departing : SpellsDeparting terms bytes d)
      → IsErrAnd result (ReportsItsDeparture terms departing.spelt.item)
  -- For such an item memory runs out only where it has a string in chunks, or where each value may be a
  -- key once and some map in it has a pair: none is asked for its value.
  pub spared : (d : Departure) → (departing : SpellsDeparting terms bytes d)
      → IfErr result (IfUnread (λ e. AsksToCheck terms.rules departing.spelt.item))
  -- A departure that is reported is the first of the acceptable item that the bytes encode.
  pub departed : IfErr result (IfDeparts (SpellsDeparting terms bytes))
  -- Bytes that encode no acceptable item are refused by the first refusal that they allow, or memory ran
  -- out, whatever the type.
  pub first : EncodeNone bytes → IsErrAnd result (ReportsFirstRefusal bytes)
  -- And where the type reads every item, each refusal but a departure is one of these.
  pub total_first : IfErr result (IfUnread (λ e. WhereTotal total
      (IsOutOfMemory e ⊎ ReportsFirst (limits_of None) bytes e)))
  -- A wrong form is reported as the type may report it.
  pub form : IfErr result (IfUnread (MayReport wrong_forms all_formats (start_of_slice bytes None)))
  -- A type that passes over an item that it doesn't read refuses it by a message.
  pub fault : (v : Val) → SpellsValue bytes v → IfErr result (IfUnread (λ e. WhereTotal passes_over
      (IsOutOfMemory e ⊎ RefusesUnread reads None bytes e)))
  -- One that reports the faults of the bytes reports the first that they allow, where its code is that of one.
  pub own_fault : IfErr result (IfUnread
      (ReportsOwn (reports_any passes_over total reports_faults) IsOutOfMemory None bytes))
  -- For an item that keeps the rules memory runs out only where the type may ask for it, or where it may to
  -- go over the item.
  pub memory : (x : A) → (kept : SpellsByRules terms reads bytes x)
      → IfErr result (IfUnread (λ e. asks kept.spelt.item ⊎ AsksToCheck terms.rules kept.spelt.item))
