-- Reading items one after the other by rules: where it stands, and what a call answers.
use Rattle.std.specs.Prelude.{◌≡◌, ◌≢◌, ◌⊎◌, ◌+◌, ◌≤◌, ℕ, Bool, true, List, [], length, drop}
use Rattle.std.specs.Prelude.{Option, Some, None, Result, IfErr, IfOk, IfSome, MatchResult, OnErr, refl}
use Rattle.cbor_model.specs.Acceptable.{max_depth}
use Rattle.cbor_model.specs.Formats.{all_formats}
use Rattle.cbor_model.specs.Raw.{Raw}
use Rattle.cbor_model.specs.RawReader.{Begins}
use Rattle.cbor_model.specs.Spelling.{spell}
use Rattle.cbor_io.specs.Error.{IsOutOfMemory}
use Rattle.cbor_read.specs.Source.{Input, slice_input}
use Rattle.cbor_decode.specs.FirstRefusal.{ReportsFirst}
use Rattle.cbor_decode_as.specs.Takes.{IsMessage, WhereTotal}
use Rattle.cbor_de.specs.FirstOfItem.{bounds_of}
use Rattle.cbor_de.specs.Forms.{MayReport, WrongForms}
use Rattle.cbor_de.specs.ItemTaken.{BeginsAs}
use Rattle.cbor_de.specs.Whole.{BeginsUnread}
use Rattle.cbor_io.specs.declared.error.Error.{Error}
use Rattle.cbor_rules.specs.Answers.{IfDeparts, IfUnread, IsMemory}
use Rattle.cbor_rules.specs.Rules.{Terms, Keeps, first_departure, is_unique, under}
use Rattle.cbor_rules.specs.Unique.{HasPair}
use Rattle.cbor_rules.specs.declared.answers.Departure.{Departure}
use Rattle.cbor_rules.specs.declared.answers.Refusal.{Refusal}
use Rattle.cbor_rules.specs.declared.answers.Refusal.TheVariants.{Unread, Departs}
use Rattle.cbor_rules.specs.declared.items.RuledItems.{RuledItems}
use Rattle.cbor_rules.specs.declared.settings.Rule.TheVariants.{ShortestHeads}

-- The bytes of an input, how many of them were taken, and the rules with the tags that stand.
pub record Items : Type 0 where
  pub input : List ℕ
  pub taken : ℕ
  pub terms : Terms

-- where nothing was taken
abbrev pub begun : List ℕ → Terms → Items
begun bytes terms = record { input = bytes; taken = 0; terms = terms }

-- where the program's items stand
abbrev pub standing : RuledItems → Items
standing items = record {
  input = items.slice.now;
  taken = items.taken;
  terms = under items.rules items.tags.now;
}

-- where n bytes more were taken
abbrev pub further : ℕ → Items → Items
further n s = record s { taken = s.taken + n }

-- the bytes that are to come
abbrev pub to_come : Items → List ℕ
to_come s = drop s.taken s.input

-- what an item is read from
abbrev pub source_of : Items → Input
source_of s = slice_input s.input s.taken [] None

-- ---- what is read

-- The bytes are the encoding of an acceptable item that keeps each rule that is on, which is read
-- as x, and these others.
pub record BeginsByRules {A : Type 0} (terms : Terms) (reads : Raw → A → Type 0) (bytes : List ℕ)
    (x : A) (rest : List ℕ) : Type 0 where
  pub read : BeginsAs all_formats max_depth reads bytes x rest
  pub keeps : Keeps terms read.item

-- Such an item was to come, and its bytes alone were taken.
pub record GivesItem {A : Type 0} (reads : Raw → A → Type 0) (s t : Items) (x : A) : Type 0 where
  pub front : BeginsByRules s.terms reads (to_come s) x (to_come t)
  pub took : t ≡ further (length (spell front.read.item)) s

-- It gives such an item; or none, where nothing is to come.
abbrev pub GivesNext : {A : Type 0} → (Raw → A → Type 0) → Items → Items → Option A → Type 0
GivesNext reads s t None = (to_come s ≡ []) × (t ≡ s)
GivesNext reads s t (Some x) = GivesItem reads s t x

-- ---- departures

-- A departure that is counted from where its item begins, counted from where the input does.
abbrev pub counted_from : ℕ → Option Departure → Option Departure
counted_from start None = None
counted_from start (Some d) = Some (record { rule = d.rule; offset = start + d.offset })

-- the first departure of an item that begins at this offset
abbrev pub departure_from : ℕ → Terms → Raw → Option Departure
departure_from start terms item = counted_from start (first_departure terms item)

-- It reports the first departure of an item that begins at this offset; or memory ran out.
abbrev pub ReportsDepartureFrom : ℕ → Terms → Raw → Refusal → Type 0
ReportsDepartureFrom start terms item (Unread e) = IsOutOfMemory e
ReportsDepartureFrom start terms item (Departs d) = departure_from start terms item ≡ Some d

-- An acceptable item is to come, which departs so first.
pub record BeginsDeparting (s : Items) (d : Departure) : Type 0 where
  pub item : Raw
  pub rest : List ℕ
  pub begins : Begins max_depth (to_come s) item rest
  pub departs : departure_from s.taken s.terms item ≡ Some d

-- ---- other refusals

-- A refusal by a type that passes over an item that it doesn't read: a message where such an item is
-- to come, and the first refusal that the bytes to come allow where none is.
abbrev pub RefusesNext : {A : Type 0} → (Raw → A → Type 0) → Items → Error → Type 0
RefusesNext reads s e =
    (IsMessage e × BeginsUnread reads None (to_come s))
    ⊎ (ReportsFirst (bounds_of max_depth (source_of s)) (to_come s) e
    × (BeginsUnread reads None (to_come s) → ⊥))

-- ---- what is answered

-- What a call answers that reads the next item by the rules.
pub record AnswersNext {A : Type 0} (passes_over total : Bool) (wrong_forms : WrongForms)
    (reads : Raw → A → Type 0) (asks : Raw → Type 0) (s t : Items) (result : Result (Option A) Refusal)
    : Type 0 where
  -- The bytes to come begin with an acceptable item that keeps the rules, it is read so, and it alone is
  -- taken; or there are none.
  pub found : IfOk result (GivesNext reads s t)
  -- At the end of the slice nothing is refused; and nothing is taken of what is refused.
  pub at_end : OnErr result (to_come s ≢ [])
  pub stays : OnErr result (t ≡ s)
  -- Each such item is read, unless memory runs out.
  pub accepted : (x : A) (rest : List ℕ) → BeginsByRules s.terms reads (to_come s) x rest
      → IfErr result IsMemory
  -- An item that the type reads is refused by its first departure alone.
  pub departs : (x : A) (rest : List ℕ)
      → (front : BeginsAs all_formats max_depth reads (to_come s) x rest)
      → IfErr result (ReportsDepartureFrom s.taken s.terms front.item)
  -- A departure that is reported is the first of the acceptable item that is to come.
  pub departed : IfErr result (IfDeparts (BeginsDeparting s))
  -- The acceptable item that is to come is the one that is read; and where the type reads every item, it is
  -- refused by its first departure alone.
  pub every : (item : Raw) (rest : List ℕ) → Begins max_depth (to_come s) item rest
      → MatchResult result (λ o. IfSome o (reads item))
      (λ e. WhereTotal total (ReportsDepartureFrom s.taken s.terms item e))
  -- Another refusal is, where the type reads every item, the first that the bytes to come allow of one, or
  -- memory ran out; and a wrong form is reported as the type may report it.
  pub first : IfErr result (IfUnread (λ e. WhereTotal total (IsOutOfMemory e
      ⊎ ReportsFirst (bounds_of max_depth (source_of s)) (to_come s) e)))
  pub form : IfErr result (IfUnread (MayReport wrong_forms all_formats (source_of s)))
  -- A type that passes over an item that it doesn't read refuses it by a message, and other bytes by their
  -- first refusal.
  pub fault : IfErr result (IfUnread (λ e. WhereTotal passes_over
      (IsOutOfMemory e ⊎ RefusesNext reads s e)))
  -- Memory runs out only for an item for which the type may ask for it, or where each value may be a key
  -- once and some map in the item has a pair.
  pub memory : (x : A) (rest : List ℕ)
      → (front : BeginsAs all_formats max_depth reads (to_come s) x rest)
      → IfErr result (IfUnread (λ e. asks front.item
      ⊎ ((is_unique s.terms.rules.keys ≡ true) × HasPair front.item)))

-- ---- one item

-- An item that is read as x begins at this offset of the bytes, and ends at that one.
pub record EndsAt {A : Type 0} (reads : Raw → A → Type 0) (bytes : List ℕ) (start : ℕ) (x : A)
    (end : ℕ) : Type 0 where
  pub read : BeginsAs all_formats max_depth reads (drop start bytes) x (drop end bytes)
  pub long : end ≡ start + length (spell read.item)
  pub within : end ≤ length bytes

-- ---- examples

-- of 01 18 17, whose second item departs at offset 2 of its own
second_item : counted_from 1 (Some (record { rule = ShortestHeads; offset = 2 }))
    ≡ Some (record { rule = ShortestHeads; offset = 3 })
second_item = refl
