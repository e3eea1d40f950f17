-- Items that aren't decoded, whose bytes are lent.
use Rattle.std.specs.Prelude.{◌≡◌, ◌⊎◌, ◌<◌, ◌^◌, ℕ, true, List, length, take, Option, Some, Result}
use Rattle.std.specs.Prelude.{Ok, Err, IfSome}
use Rattle.cbor_model.specs.Acceptable.{FitsScratch}
use Rattle.cbor_model.specs.Encoding.{Encodes}
use Rattle.cbor_model.specs.Formats.{Formats, HasAllowedKeys}
use Rattle.cbor_model.specs.Raw.{Raw, AreBytes}
use Rattle.cbor_model.specs.RawReader.{Begins}
use Rattle.cbor_model.specs.Readable.{Context}
use Rattle.cbor_model.specs.Spelling.{spell}
use Rattle.cbor_io.specs.declared.error.Error.{Error}
use Rattle.cbor_io.specs.Error.{IsOutOfMemory}
use Rattle.cbor_read.specs.Source.{Input, Lends}

-- These bytes encode the item, and the source lends what it hands out for the input's life.
pub record IsLentItem (c : Context) (r : Raw) (bytes : List ℕ) : Type 0 where
  pub lent : c.lends_definite ≡ true
  pub encodes : Encodes bytes r

-- An item stands at the front of the bytes, and ends there: it is acceptable within so many levels,
-- its keys are of these formats, and its strings in chunks fit the room.
pub record StandsWithin (f : Formats) (levels : ℕ) (room : Option ℕ) (bytes : List ℕ) (end : ℕ)
    : Type 0 where
  pub item : Raw
  pub rest : List ℕ
  pub begins : Begins levels bytes item rest
  pub keys : HasAllowedKeys f item
  pub fits : FitsScratch room item
  pub ends : end ≡ length (spell item)

-- no such item stands there
abbrev pub NoneWithin : Formats → ℕ → Option ℕ → List ℕ → Type 0
NoneWithin f levels room bytes = (item : Raw) (rest : List ℕ)
    → Begins levels bytes item rest → HasAllowedKeys f item → FitsScratch room item → ⊥

-- where it ends; or that none does, but where memory ran out
abbrev pub FindsEnd : Formats → ℕ → Option ℕ → List ℕ → Result ℕ Error → Type 0
FindsEnd f levels room bytes (Ok end) = StandsWithin f levels room bytes end
FindsEnd f levels room bytes (Err e) = IsOutOfMemory e ⊎ NoneWithin f levels room bytes

-- What is at hand of a source are bytes: the first of those to come, and all of them where it lends
-- them for the input's life.
pub record ShowsFront (lends : Lends) (s : Input) (hand : List ℕ) : Type 0 where
  pub bytes : AreBytes hand
  pub short : length hand < 2 ^ 64
  pub front : IfSome s.to_come (λ bs. take (length hand) bs ≡ hand)
  pub all : lends.whole ≡ true → s.to_come ≡ Some hand
