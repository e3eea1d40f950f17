-- What enums are read as.
use Rattle.std.specs.Prelude.{◌≡◌, ℕ, zero, suc, Bool, true, List, [], ◌∷◌, Some}
use Rattle.std.specs.Prelude.{◌||◌, pos, refl}
use Rattle.cbor_model.specs.Formats.{Formats, all_formats}
use Rattle.cbor_model.specs.Head.{no_bytes, one_byte}
use Rattle.cbor_model.specs.Raw as raw
use Rattle.cbor_model.specs.Raw.{Raw, Raws, definite, indefinite, no_raws, raw_pair, no_raw_pairs}
use Rattle.cbor_model.specs.Readable.{PassesTags, IsUnit, IsInteger}
use Rattle.cbor_decode_as.specs.Arrays.{AsArray, FirstThen, AreNone}
use Rattle.cbor_decode_as.specs.Identifiers.{IsIdentifier}

-- What stands after a variant's identifier: nothing, one item, or the parts of an array.
pub data Content : Type 0 where
  alone : Content
  one : Raw → Content
  parts : Raws → Content

-- the item, within its tags, names this place among the names
abbrev pub IsName : List (List ℕ) → Raw → ℕ → Type 0
IsName names = PassesTags (λ r i. IsIdentifier names r (Some i))

-- enums of one of both formats are read
abbrev pub reads_names : Formats → Bool
reads_names f = f.standard_enums || f.legacy_enums

-- The item is the variant in this place, with this content: an array that begins with the identifier; a
-- map of one pair, with a head of one byte, from the identifier to the content; or the identifier alone.
abbrev pub IsVariant : Formats → List (List ℕ) → Raw → ℕ × Content → Type 0
IsVariant f names (raw.array l (raw.raw r rs)) v =
    (f.legacy_enums ≡ true) × IsName names r v.0 × (v.1 ≡ parts rs)
IsVariant f names (raw.map (definite no_bytes) (raw_pair k r no_raw_pairs)) v =
    (f.standard_enums ≡ true) × IsName names k v.0 × (v.1 ≡ one r)
IsVariant f names r v =
    (reads_names f ≡ true) × IsIdentifier names r (Some v.0) × (v.1 ≡ alone)

-- An enum: what each variant's content means.
pub record IsEnum {E : Type 0} (f : Formats) (names : List (List ℕ)) (means : ℕ → Content → E → Type 0) (r : Raw) (x : E) : Type 0 where
  pub index : ℕ
  pub content : Content
  pub variant : IsVariant f names r (index, content)
  pub meaning : means index content x

-- ---- what a variant means

-- the meanings of an enum's variants, in the order of their names
abbrev pub variants : {E : Type 0} → List (Content → E → Type 0) → ℕ → Content → E → Type 0
variants [] i c x = ⊥
variants (m ∷ ms) zero c x = m c x
variants (m ∷ ms) (suc i) c x = variants ms i c x

-- nothing, or null or undefined
abbrev pub IsNothing : Content → Unit {0} → Type 0
IsNothing alone u = Unit {0}
IsNothing (one r) u = PassesTags IsUnit r u
IsNothing (parts rs) u = FirstThen (PassesTags IsUnit) u AreNone rs

-- one item, which is read as y
abbrev pub IsPart : {A : Type 0} → (Raw → A → Type 0) → Content → A → Type 0
IsPart reads alone y = ⊥
IsPart reads (one r) y = reads r y
IsPart reads (parts rs) y = FirstThen reads y AreNone rs

-- items, or an array of them, which are read as y
abbrev pub AreParts : {A : Type 0} → (Raws → A → Type 0) → Content → A → Type 0
AreParts items alone y = ⊥
AreParts items (one r) y = PassesTags (AsArray items) r y
AreParts items (parts rs) y = items rs y

-- a variant of no part
abbrev pub unit : {E : Type 0} → E → Content → E → Type 0
unit e c x = IsNothing c tt × (x ≡ e)

-- a variant that is made of one part
abbrev pub newtype : {A E : Type 0} → (Raw → A → Type 0) → (A → E) → Content → E → Type 0
newtype {A} reads make c x = (y : A) × IsPart reads c y × (x ≡ make y)

-- a variant that is made of several
abbrev pub tuple : {A E : Type 0} → (Raws → A → Type 0) → (A → E) → Content → E → Type 0
tuple {A} items make c x = (y : A) × AreParts items c y × (x ≡ make y)

-- no item
abbrev pub no_part : Raws → Unit {0} → Type 0
no_part rs u = AreNone rs

-- one item, and then others, which are read as a pair
abbrev pub part_then : {A B : Type 0} → (Raw → A → Type 0) → (Raws → B → Type 0) → Raws → A × B → Type 0
part_then reads others rs y = FirstThen reads y.0 (λ more. others more y.1) rs

-- ---- examples

-- [1, 2] has the parts 1 and 2
two_parts : part_then IsInteger (part_then IsInteger no_part)
    (raw.raw (raw.unsigned no_bytes 1) (raw.raw (raw.unsigned no_bytes 2) no_raws))
    (pos 1, (pos 2, tt))
two_parts = (refl, (refl, tt))

-- "a" and "b"
abbrev two_names : List (List ℕ)
two_names = (0x61 ∷ []) ∷ (0x62 ∷ []) ∷ []

-- {1: 5}, [1, 5] and 1 are the second variant
in_map : IsVariant all_formats two_names
    (raw.map (definite no_bytes) (raw_pair (raw.unsigned no_bytes 1) (raw.unsigned no_bytes 5) no_raw_pairs))
    (1, one (raw.unsigned no_bytes 5))
in_map = (refl, refl, refl)

in_array : IsVariant all_formats two_names
    (raw.array indefinite (raw.raw (raw.unsigned no_bytes 1) (raw.raw (raw.unsigned no_bytes 5) no_raws)))
    (1, parts (raw.raw (raw.unsigned no_bytes 5) no_raws))
in_array = (refl, refl, refl)

name_alone : IsVariant all_formats two_names (raw.unsigned no_bytes 1) (1, alone)
name_alone = (refl, refl, refl)

-- a map with a longer head is no variant
longer_head : IsVariant all_formats two_names
    (raw.map (definite one_byte) (raw_pair (raw.unsigned no_bytes 1) (raw.unsigned no_bytes 5) no_raw_pairs))
    (1, one (raw.unsigned no_bytes 5)) → ⊥
longer_head h = h.1.1
