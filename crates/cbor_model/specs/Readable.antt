-- What a type reads: the items, and the value for each.
use Rattle.std.specs.Prelude.{◌≡◌, ◌≢◌, ◌≤◌, ℕ, Bool, true, false, List, [], ◌∷◌, ℤ, pos, negsuc}
use Rattle.std.specs.Prelude.{◌≤ℤ◌, Option, Some, None, refl}
use Rattle.std.specs.Str.{IsUtf8}
use Rattle.cbor_model.specs.Head.{no_bytes, one_byte}
use Rattle.cbor_model.specs.Raw as raw
use Rattle.cbor_model.specs.Raw.{Raw, FloatWidth, joined}
use Rattle.cbor_model.specs.Raw.{false_item, true_item, null_item, undefined_item}
use Rattle.cbor_model.specs.Spelling.{spell}
use Rattle.cbor_model.specs.Acceptable.{IsAcceptable}
use Rattle.cbor_model.specs.Formats.{Formats, HasAllowedKeys}

-- What reading depends on besides the item: the formats that are read, and whether definite strings
-- and strings in chunks are lent for the input's whole life.
pub record Context : Type 0 where
  pub formats : Formats
  pub lends_definite : Bool
  pub lends_joined : Bool

-- The bytes spell one acceptable item, whose keys are of the formats that are read, and it is read as x.
pub record SpellsAs {A : Type 0} (formats : Formats) (reads : Raw → A → Type 0) (bytes : List ℕ) (x : A) : Type 0 where
  pub item : Raw
  pub acceptable : IsAcceptable item
  pub keys : HasAllowedKeys formats item
  pub spelled : spell item ≡ bytes
  pub means : reads item x

-- ---- tags

-- the item within its tags
abbrev pub untagged : Raw → Raw
untagged (raw.tag w n r) = untagged r
untagged r = r

-- what is read of the item within its tags
abbrev pub PassesTags : {A : Type 0} → (Raw → A → Type 0) → Raw → A → Type 0
PassesTags reads r x = reads (untagged r) x

-- ---- simple values and numbers

abbrev pub IsBool : Raw → Bool → Type 0
IsBool (raw.simple false_item) b = b ≡ false
IsBool (raw.simple true_item) b = b ≡ true
IsBool _ b = ⊥

-- null or undefined
abbrev pub IsUnit : Raw → Unit {0} → Type 0
IsUnit (raw.simple null_item) u = Unit {0}
IsUnit (raw.simple undefined_item) u = Unit {0}
IsUnit _ u = ⊥

abbrev pub IsInteger : Raw → ℤ → Type 0
IsInteger (raw.unsigned w n) z = z ≡ pos n
IsInteger (raw.negative w n) z = z ≡ negsuc n
IsInteger _ z = ⊥

-- a number from 0 to the most
abbrev pub IsFromZero : ℕ → Raw → ℕ → Type 0
IsFromZero most r n = IsInteger r (pos n) × (n ≤ most)

-- from -1 - most to the most
abbrev pub IsWithin : ℕ → ℤ → Type 0
IsWithin most z = (negsuc most ≤ℤ z) × (z ≤ℤ pos most)

abbrev pub IsSigned : ℕ → Raw → ℤ → Type 0
IsSigned most r z = IsInteger r z × IsWithin most z

-- a float of that width and with those bits
abbrev pub IsFloat : Raw → FloatWidth × ℕ → Type 0
IsFloat (raw.float w n) f = f ≡ (w, n)
IsFloat _ f = ⊥

-- ---- strings

-- a byte string or a text of these bytes, definite or in chunks
abbrev pub IsString : Raw → List ℕ → Type 0
IsString (raw.bytes c) b = c.bytes ≡ b
IsString (raw.text c) b = c.bytes ≡ b
IsString (raw.bytes_chunks cs) b = joined cs ≡ b
IsString (raw.text_chunks cs) b = joined cs ≡ b
IsString _ b = ⊥

-- a text, or a byte string that is UTF-8
abbrev pub IsText : Raw → List ℕ → Type 0
IsText r b = IsString r b × IsUtf8 b

-- whether a string is lent
abbrev pub is_lent : Context → Raw → Bool
is_lent c (raw.bytes_chunks cs) = c.lends_joined
is_lent c (raw.text_chunks cs) = c.lends_joined
is_lent c r = c.lends_definite

-- ---- what may be absent

-- null is None, and another item is Some of what it is read as
abbrev pub IsOptional : {A : Type 0} → (Raw → A → Type 0) → Raw → Option A → Type 0
IsOptional reads r None = r ≡ raw.simple null_item
IsOptional reads r (Some x) = (r ≢ raw.simple null_item) × reads r x

-- ---- examples

-- 1(0(23)), with a longer head, is 23
tags_passed : PassesTags IsInteger (raw.tag no_bytes 1 (raw.tag no_bytes 0 (raw.unsigned one_byte 23))) (pos 23)
tags_passed = refl

-- undefined is unit
undefined_is_unit : PassesTags IsUnit (raw.simple undefined_item) tt
undefined_is_unit = tt

-- c3 and a9 in two chunks of a text are the bytes of one character
joined_character : IsString
    (raw.text_chunks (
    record { width = no_bytes; bytes = 0xc3 ∷ [] }
    ∷ record { width = no_bytes; bytes = 0xa9 ∷ [] }
    ∷ []))
    (0xc3 ∷ 0xa9 ∷ [])
joined_character = refl

-- null is None also of a type that reads null, and undefined isn't None
null_is_none : IsOptional (PassesTags IsUnit) (raw.simple null_item) None
null_is_none = refl

undefined_is_some : IsOptional (PassesTags IsUnit) (raw.simple undefined_item) (Some tt)
undefined_is_some = ((λ e. cc), tt)
