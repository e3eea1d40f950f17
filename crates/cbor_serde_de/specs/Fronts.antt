-- The item at the front of bytes, and which refusals they allow.
use Rattle.std.specs.Prelude.{◌≡◌, ◌⊎◌, ℕ, ◌+◌, List, [], ◌∷◌, ◌++◌, length, None, Result, Ok, Err}
use Rattle.cbor_model.specs.Acceptable.{IsAcceptableWithin}
use Rattle.cbor_model.specs.Allowed.{Limits}
use Rattle.cbor_model.specs.Raw.{Raw}
use Rattle.cbor_model.specs.RawReader.{Begins}
use Rattle.cbor_model.specs.Spelling.{spell}
use Rattle.cbor_io.specs.declared.error.Category.TheVariants as category
use Rattle.cbor_io.specs.declared.error.Error.{Error}
use Rattle.cbor_io.specs.declared.error.ErrorCode.TheVariants.{TrailingData}
use Rattle.cbor_io.specs.Error.{IsOutOfMemory, category_of, code_of, offset_of}
use Rattle.cbor_decode.specs.FirstRefusal.{ReportsFirst}
use Rattle.cbor_decode.specs.Gives.{IsMemoryOrFaultBy}

-- what bounds an item that begins where the bytes do, of which so many levels are read
abbrev pub item_limits : ℕ → Limits
item_limits levels = record { start = 0; levels = levels; scratch = None }

-- An acceptable item stands at the front of the bytes, and ends there.
pub record HasItem (levels : ℕ) (bytes : List ℕ) (end : ℕ) : Type 0 where
  pub item : Raw
  pub rest : List ℕ
  pub begins : Begins levels bytes item rest
  pub ends : end ≡ length (spell item)

-- where that item ends; or the first refusal that the bytes allow of one
abbrev pub FindsItem : ℕ → List ℕ → Result ℕ Error → Type 0
FindsItem levels bytes (Ok end) = HasItem levels bytes end
FindsItem levels bytes (Err e) =
    IsOutOfMemory e ⊎ ReportsFirst (item_limits levels) bytes e

-- The bytes are those of one acceptable item.
pub record IsItem (levels : ℕ) (bytes : List ℕ) : Type 0 where
  pub item : Raw
  pub spelled : bytes ≡ spell item
  pub acceptable : IsAcceptableWithin levels item

-- The error is the first refusal that the bytes allow as far as they were taken; and that they end
-- too early, only where all were.
pub record RefusesFront (levels : ℕ) (bytes : List ℕ) (e : Error) : Type 0 where
  pub taken : List ℕ
  pub rest : List ℕ
  pub parts : bytes ≡ taken ++ rest
  pub reports : ReportsFirst (item_limits levels) taken e
  pub ended : category_of (code_of e) ≡ category.Eof → rest ≡ []

-- The error is that a byte follows the acceptable item at the front, after that byte.
pub record RefusesRest (levels : ℕ) (bytes : List ℕ) (e : Error) : Type 0 where
  pub item : Raw
  pub byte : ℕ
  pub rest : List ℕ
  pub begins : Begins levels bytes item (byte ∷ rest)
  pub code : code_of e ≡ TrailingData
  pub at : offset_of e ≡ length (spell item) + 1

-- That memory ran out, a fault of the reader, or what a type says of an item.
abbrev pub IsOwn : Error → Type 0
IsOwn e = IsMemoryOrFaultBy (code_of e) ⊎ (category_of (code_of e) ≡ category.Data)

-- How these bytes may be refused where one item is read as a type: it doesn't read the item that
-- they are; or they aren't one.
abbrev pub MayRefuse : ℕ → List ℕ → Error → Type 0
MayRefuse levels bytes e =
    IsItem levels bytes ⊎ (RefusesRest levels bytes e ⊎ RefusesFront levels bytes e)

-- no byte came, and the error is that they end
abbrev pub IsEmptyEnd : List ℕ → Error → Type 0
IsEmptyEnd bytes e = (category_of (code_of e) ≡ category.Eof) × (bytes ≡ [])
