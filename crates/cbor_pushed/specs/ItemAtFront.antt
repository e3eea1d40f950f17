-- The item at the front of bytes to which others may be added.
use Rattle.std.specs.Prelude.{◌≡◌, ◌≢◌, ◌⊎◌, ℕ, ◌^◌, ◌<◌, List, ◌++◌, length, Option, Some, None}
use Rattle.std.specs.Prelude.{Result, Ok, Err}
use Rattle.cbor_model.specs.Allowed.{IsEnd, IsFirstRefusal, Limits}
use Rattle.cbor_model.specs.Raw.{Raw}
use Rattle.cbor_model.specs.RawReader.{Begins}
use Rattle.cbor_model.specs.Refusal.{Refusal}
use Rattle.cbor_model.specs.Spelling.{spell}
use Rattle.cbor_io.specs.declared.error.Category.TheVariants as category
use Rattle.cbor_io.specs.declared.error.Error.{Error}
use Rattle.cbor_io.specs.Error.{IsOutOfMemory, category_of, code_of}
use Rattle.cbor_decode.specs.FirstRefusal.{ReportsFirst}

-- what bounds an item that begins where the bytes do, of which so many levels are read
abbrev pub item_limits : ℕ → Limits
item_limits levels = record { start = 0; levels = levels; scratch = None }

-- An acceptable item stands at the front of the bytes, and ends there.
pub record HasItem (levels : ℕ) (bytes : List ℕ) (end : ℕ) : Type 0 where
  pub item : Raw
  pub rest : List ℕ
  pub begins : Begins levels bytes item rest
  pub ends : end ≡ length (spell item)

-- No acceptable item stands at the front of the bytes.
abbrev pub HasNoItem : ℕ → List ℕ → Type 0
HasNoItem levels bytes = (item : Raw) (rest : List ℕ) → ¬ (Begins levels bytes item rest)

-- More bytes are wanted: the first refusal that these allow is that they end, and no acceptable item
-- stands at the front of them.
pub record IsUnfinished (levels : ℕ) (bytes : List ℕ) : Type 0 where
  pub why : Refusal
  pub offset : ℕ
  pub ends : IsEnd why
  pub first : IsFirstRefusal (item_limits levels) bytes why offset
  pub no_item : HasNoItem levels bytes

-- The error is the first refusal that the bytes allow, and not that they end; and no acceptable
-- item stands at the front of them, whatever is added.
pub record IsRefused (levels : ℕ) (bytes : List ℕ) (e : Error) : Type 0 where
  pub first : ReportsFirst (item_limits levels) bytes e
  pub no_end : category_of (code_of e) ≢ category.Eof
  pub for_good : (more : List ℕ) → length (bytes ++ more) < 2 ^ 64
      → HasNoItem levels (bytes ++ more)

-- Where the item at the front ends; none while it isn't whole; or why none is there.
abbrev pub FindsItem : ℕ → List ℕ → Result (Option ℕ) Error → Type 0
FindsItem levels bytes (Ok (Some end)) = HasItem levels bytes end
FindsItem levels bytes (Ok None) = IsUnfinished levels bytes
FindsItem levels bytes (Err e) = IsOutOfMemory e ⊎ IsRefused levels bytes e
