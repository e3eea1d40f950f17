-- That readings of one input answer alike, whatever their sources.
use Rattle.std.specs.Prelude.{◌≡◌, ◌^◌, ◌<◌, ◌⊎◌, ℕ, List, length, Option, Result, Ok, Err, ⊤}
use Rattle.cbor_model.specs.Allowed.{limits_of}
use Rattle.cbor_model.specs.Formats.{all_formats}
use Rattle.cbor_model.specs.Laws.{SpellsValue}
use Rattle.cbor_model.specs.Raw.{Raw, AreBytes}
use Rattle.cbor_model.specs.Readable.{Context, SpellsAs}
use Rattle.cbor_io.specs.declared.error.Error.{Error}
use Rattle.cbor_io.specs.declared.error.ErrorCode.TheVariants.{ScratchTooSmall}
use Rattle.cbor_io.specs.Error.{code_of, offset_of, IsOutOfMemory}
use Rattle.cbor_value.specs.View.{view}
use Rattle.cbor_value.specs.declared.Value.{Value}
use Rattle.cbor_decode.specs.FirstRefusal.{ReportsFirst}
use Rattle.cbor_decode.specs.Gives.{IsMemoryOrFault}
use Rattle.cbor_read.specs.Source.{Lends}
use Rattle.cbor_decode_as.specs.Takes.{lending}

-- What an input is read as, with a scratch of this length or none: its value; or the first refusal
-- that it allows, unless memory ran out or a reader reported a fault.
abbrev pub IsReading : Option ℕ → List ℕ → Result Value Error → Type 0
IsReading scratch bytes (Ok v) = SpellsValue bytes (view v)
IsReading scratch bytes (Err e) = IsMemoryOrFault e ⊎ ReportsFirst (limits_of scratch) bytes e

-- memory ran out, a reader reported a fault, or a scratch is too small
abbrev pub IsOfSource : Error → Type 0
IsOfSource e = IsMemoryOrFault e ⊎ (code_of e ≡ ScratchTooSmall)

-- The same value, or errors of one code at one offset; or an error that is of its source alone.
abbrev pub AreAlike : Result Value Error → Result Value Error → Type 0
AreAlike (Ok v) (Ok w) = view v ≡ view w
AreAlike (Ok v) (Err e) = IsOfSource e
AreAlike (Err e) (Ok v) = IsOfSource e
AreAlike (Err e) (Err f) =
    IsOfSource e ⊎ IsOfSource f ⊎ ((code_of e ≡ code_of f) × (offset_of e ≡ offset_of f))

-- Two readings of one input answer alike.
abbrev pub SourcesAgree : Type 0
SourcesAgree = (scratch scratch' : Option ℕ) (bytes : List ℕ) (r r' : Result Value Error)
    → AreBytes bytes → length bytes < 2 ^ 64
    → IsReading scratch bytes r → IsReading scratch' bytes r' → AreAlike r r'

-- ---- as types that borrow nothing

-- What a slice is read as: a value that the one item it spells is read as; or there is none, unless
-- memory ran out.
abbrev pub IsReadingAs : {A : Type 0} → (Raw → A → Type 0) → List ℕ → Result A Error → Type 0
IsReadingAs reads bytes (Ok x) = SpellsAs all_formats reads bytes x
IsReadingAs {A} reads bytes (Err e) =
    (x : A) → SpellsAs all_formats reads bytes x → IsOutOfMemory e

-- The item is read as both.
abbrev pub IsReadAsBoth : {A : Type 0} → (Raw → A → Type 0) → Raw → A × A → Type 0
IsReadAsBoth reads r both = reads r both.0 × reads r both.1

-- The one item is read as both values; or both refuse; or memory ran out.
abbrev pub AgreeAs : {A : Type 0} → (Raw → A → Type 0) → List ℕ → Result A Error → Result A Error
    → Type 0
AgreeAs reads bytes (Ok x) (Ok y) = SpellsAs all_formats (IsReadAsBoth reads) bytes (x, y)
AgreeAs reads bytes (Ok x) (Err e) = IsOutOfMemory e
AgreeAs reads bytes (Err e) (Ok y) = IsOutOfMemory e
AgreeAs reads bytes (Err e) (Err f) = ⊤

-- Two readings of one input, by sources that lend this and that, agree.
abbrev pub OwnedAgree : {A : Type 0} → (Context → Raw → A → Type 0) → Type 0
OwnedAgree {A} reads = (a b : Lends) (bytes : List ℕ) (r r' : Result A Error)
    → IsReadingAs (reads (lending all_formats a)) bytes r
    → IsReadingAs (reads (lending all_formats b)) bytes r'
    → AgreeAs (reads (lending all_formats a)) bytes r r'
