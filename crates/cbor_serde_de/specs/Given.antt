-- What a step of reading read: the item, the head or the end at the front, as this event.
use Rattle.std.specs.Prelude.{◌≡◌, ⊤, ◌⊎◌, ◌++◌, ◌∷◌, ◌^◌, ◌-◌, ℕ, Bool, true, false, List, [], Ok, Some}
use Rattle.cbor_model.specs.Raw.{Raw}
use Rattle.cbor_model.specs.Readable.{PassesTags, IsBool, IsInteger, IsFromZero, IsSigned, IsText}
use Rattle.cbor_model.specs.Readable.{IsUnit}
use Rattle.cbor_model.specs.Reader.{item_at, next_at}
use Rattle.cbor_model.specs.Refusal.{Refusal, end_in_array, end_in_map}
use Rattle.cbor_decode.specs.Cursor.{ended_at}
use Rattle.cbor_decode.specs.Gives.{Step}
use Rattle.cbor_decode.specs.Heads.{remaining_of}
use Rattle.cbor_decode.specs.declared.cursor.Remaining.{Remaining}
use Rattle.cbor_decode.specs.declared.head.Head.{Head}
use Rattle.cbor_decode.specs.declared.head.Head.TheVariants as kind
use Rattle.cbor_decode_as.specs.Begins.{Begins}
use Rattle.cbor_decode_as.specs.Strings.{IsByteString, IsCharacter}
use Rattle.cbor_decode_as.specs.Takes.{IsRead, formats_of, raws}
use Rattle.serde.specs.Event.{Event, boolean, signed, unsigned, single, double, character, text}
use Rattle.serde.specs.Event.{octets, nothing}
use Rattle.serde.specs.Event.{seq_begins, seq_ends, map_begins, map_ends, key_begins}
use Rattle.serde.specs.declared.name.Name.{Name}
use Rattle.cbor_serde_de.specs.PickedNames.{PicksItem}
use Rattle.cbor_serde_de.specs.Numbers.{IsDouble, IsSingle}
use Rattle.cbor_serde_de.specs.Places.{KeepsOpen, KeepsOuter, SameReading, input_of}
use Rattle.cbor_serde_de.specs.declared.cbor.Cbor.{Cbor}

-- The item that the reference reader gives at the front is read as x, within its tags, and was taken.
-- What is open stays.
pub record ReadsAs {A : Type 0} (reads : Raw → A → Type 0) (old : Cbor) (x : A) (new : Cbor) : Type 0 where
  pub taken : Step (input_of old) (input_of new)
      (λ l bs rest. IsRead (PassesTags reads) (item_at (raws (formats_of old.decoder.formats) l) old.decoder.levels bs) x rest)
  pub kept : KeepsOpen old new

-- an item, whichever it is
abbrev pub IsAny : Raw → Unit {0} → Type 0
IsAny r u = ⊤

-- An array or a map begins: its head was taken, within its tags. What was innermost is around it,
-- and the levels outside of it are kept.
pub record Opens (kind : Remaining → Head) (old new : Cbor) : Type 0 where
  pub taken : Step (input_of old) (input_of new)
      (λ l bs rest. Begins kind old.decoder.levels new.decoder.levels new.innermost.remaining bs rest)
  pub outside : new.innermost.levels ≡ old.decoder.levels
  pub around : new.outer.items ≡ old.outer.items ++ old.innermost ∷ []
  pub same : SameReading old new

-- What is innermost ends: nothing remained of it, and its break was taken, if it has one. What was
-- around it is innermost, and its levels are left again.
pub record Closes (why : Refusal) (old new : Cbor) : Type 0 where
  pub taken : Step (input_of old) (input_of new)
      (λ l bs rest. ended_at why (remaining_of old.innermost.remaining) bs ≡ Ok (tt, rest))
  pub levels : new.decoder.levels ≡ old.innermost.levels
  pub around : old.outer.items ≡ new.outer.items ++ new.innermost ∷ []
  pub same : SameReading old new

-- Another part comes of what is innermost, and is counted.
pub record Counts (why : Refusal) (old new : Cbor) : Type 0 where
  pub comes : Step (input_of old) (input_of new)
      (λ l bs rest. next_at why (remaining_of old.innermost.remaining) bs ≡ Ok (Some (remaining_of new.innermost.remaining), rest))
  pub kept : KeepsOuter old new

-- another item of an array, or another pair of a map
abbrev pub CountsItem : Cbor → Cbor → Type 0
CountsItem = Counts end_in_array

abbrev pub CountsPair : Cbor → Cbor → Type 0
CountsPair = Counts end_in_map

-- ---- the steps

-- Of what a writer alone sends no step reads anything.
abbrev pub Given : Cbor → Event → Cbor → Type 0
Given old (boolean b) new = ReadsAs IsBool old b new
Given old (signed z) new = ReadsAs IsInteger old z new ⊎ ReadsAs (IsSigned (2 ^ 63 - 1)) old z new
Given old (unsigned n) new = ReadsAs (IsFromZero (2 ^ 128 - 1)) old n new ⊎ ReadsAs (IsFromZero (2 ^ 64 - 1)) old n new
Given old (single x) new = ReadsAs IsSingle old x new
Given old (double x) new = ReadsAs IsDouble old x new
Given old (character c) new = ReadsAs IsCharacter old c new
Given old (text b) new = ReadsAs IsText old b new
Given old (octets b) new = ReadsAs IsByteString old b new
Given old nothing new = ReadsAs IsUnit old tt new
Given old (seq_begins n) new = Opens kind.Array old new
Given old seq_ends new = Closes end_in_array old new
Given old (map_begins n) new = Opens kind.Map old new
Given old map_ends new = Closes end_in_map old new
Given old key_begins new = CountsPair old new
Given old _ new = ⊥

-- A look changes nothing; where another item of an array comes, that is counted.
abbrev pub Looked : Cbor → Cbor → Type 0
Looked old new = (new ≡ old) ⊎ CountsItem old new

-- ---- names

-- the item at the front stands for the name at this place, or for none, and was taken
abbrev pub TakesName : Bool → Cbor → List Name → ℕ → Cbor → Type 0
TakesName integer_keys old names at new = ReadsAs (PicksItem integer_keys names) old at new

-- Another pair comes of a map, and its key was taken, which stands for that name.
pub record TakesKey (old : Cbor) (names : List Name) (at : ℕ) (new : Cbor) : Type 0 where
  pub key : Cbor
  pub comes : CountsPair old key
  pub named : TakesName old.options.integer_keys key names at new

-- as the key of a map, or alone
abbrev pub Picked : Cbor → Bool → List Name → ℕ → Cbor → Type 0
Picked old true names at new = TakesKey old names at new
Picked old false names at new = TakesName old.options.integer_keys old names at new
