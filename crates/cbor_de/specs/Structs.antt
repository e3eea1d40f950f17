-- Structs of named fields.
use Rattle.std.specs.Prelude.{◌≡◌, ℕ, ℤ, suc, List, [], ◌∷◌, ◌++◌, codes, Option, Some, None, ◌⊎◌, refl}
use Rattle.cbor_model.specs.Head.{no_bytes, one_byte}
use Rattle.cbor_model.specs.Raw as raw
use Rattle.cbor_model.specs.Raw.{Raw, RawPairs, no_raw_pairs, raw_pair}
use Rattle.cbor_model.specs.Readable.{PassesTags}
use Rattle.cbor_decode_as.specs.Identifiers.{IsIdentifier, IsLabel}
use Rattle.cbor_decode_as.specs.Maps.{AsMap}
use Rattle.cbor_parts.specs.Keys.{Keys}
use Rattle.cbor_de.specs.declared.field.Field.{Field}
use Rattle.cbor_de.specs.declared.field.Field.TheVariants.{Known, Unknown}

-- the place of a field, where it is known
abbrev pub place_in : Field → Option ℕ
place_in (Known i) = Some i
place_in Unknown = None

-- The field that a key names: its number or its name, within tags.
abbrev pub IsField : List (List ℕ) → Raw → Field → Type 0
IsField names r field = PassesTags (IsIdentifier names) r (place_in field)

-- The field whose label a key is, an integer within tags.
abbrev pub IsLabelled : List ℤ → Raw → Field → Type 0
IsLabelled labels r field = PassesTags (IsLabel labels) r (place_in field)

-- The field that a key means: by its name or its number, or where there are labels, by its label.
abbrev pub IsKeyedBy : List (List ℕ) → Option (List ℤ) → Raw → Field → Type 0
IsKeyedBy names None = IsField names
IsKeyedBy names (Some labels) = IsLabelled labels

abbrev pub IsKeyed : Keys → Raw → Field → Type 0
IsKeyed keys = IsKeyedBy keys.names keys.labels

-- any item, of which nothing is kept
abbrev pub IsAny : Raw → Unit {0} → Type 0
IsAny r u = Unit {0}

-- What follows is of any way in which keys mean fields (`keyed`): by their names, as `IsField`, or
-- by labels.

-- a key means one field at the most
abbrev pub MeansOneField : (Raw → Field → Type 0) → Type 0
MeansOneField keyed = (r : Raw) (p q : Field) → keyed r p → keyed r q → p ≡ q

-- each key means a field, or none
abbrev pub AreFields : (Raw → Field → Type 0) → RawPairs → Type 0
AreFields keyed no_raw_pairs = Unit {0}
AreFields keyed (raw_pair k v rs) = ((field : Field) × keyed k field) × AreFields keyed rs

-- no key is the i-th field
abbrev pub Absent : (Raw → Field → Type 0) → ℕ → RawPairs → Type 0
Absent keyed i no_raw_pairs = Unit {0}
Absent keyed i (raw_pair k v rs) = (keyed k (Known i) → ⊥) × Absent keyed i rs

-- one key alone is the i-th field, and this is its value
abbrev pub Once : (Raw → Field → Type 0) → ℕ → RawPairs → Raw → Type 0
Once keyed i no_raw_pairs v = ⊥
Once keyed i (raw_pair k w rs) v =
    (keyed k (Known i) × (w ≡ v) × Absent keyed i rs)
    ⊎ ((keyed k (Known i) → ⊥) × Once keyed i rs v)

-- the i-th field is there once, and its value is read as x
abbrev pub IsFieldRead : {A : Type 0} → (Raw → Field → Type 0) → ℕ → (Raw → A → Type 0) → RawPairs
    → A → Type 0
IsFieldRead keyed i reads rs x = (v : Raw) × Once keyed i rs v × reads v x

-- ---- structs

-- what a field is where it is absent: no struct is read then, or it is one of these
pub data IfAbsent (A : Type 0) : Type 1 where
  refused : IfAbsent A
  taken : (A → Type 0) → IfAbsent A

-- A field of the struct S: as what its value is read, what it is where it is absent, and where it
-- stands in the struct.
pub record FieldOf (S : Type 0) : Type 1 where
  pub Value : Type 0
  pub reads : Raw → Value → Type 0
  pub missing : IfAbsent Value
  pub of : S → Value

abbrev pub field_or : {S A : Type 0} → (Raw → A → Type 0) → IfAbsent A → (S → A) → FieldOf S
field_or {S} {A} reads missing of = record { Value = A; reads = reads; missing = missing; of = of }

-- one that has to be there
abbrev pub field : {S A : Type 0} → (Raw → A → Type 0) → (S → A) → FieldOf S
field reads of = field_or reads refused of

-- the i-th field is x: it is there once and read so, or it may be absent, is, and is x then
abbrev pub IsFieldOr : {A : Type 0} → IfAbsent A → (Raw → Field → Type 0) → ℕ
    → (Raw → A → Type 0) → RawPairs → A → Type 0
IsFieldOr refused keyed i reads rs x = IsFieldRead keyed i reads rs x
IsFieldOr (taken missing) keyed i reads rs x =
    IsFieldRead keyed i reads rs x ⊎ (Absent keyed i rs × missing x)

-- each field, from the i-th on, is its part of the struct
abbrev pub HasFields : {S : Type 0} → (Raw → Field → Type 0) → ℕ → List (FieldOf S) → RawPairs → S
    → Type 0
HasFields keyed i [] rs x = Unit {0}
HasFields keyed i (d ∷ fields) rs x =
    IsFieldOr d.missing keyed i d.reads rs (d.of x) × HasFields keyed (suc i) fields rs x

-- The pairs of a struct: each key means a field or none, and each field is there once, or is absent
-- where it may be. A pair of a key that means none is passed over.
pub record AreFieldsOf {S : Type 0} (keyed : Raw → Field → Type 0) (fields : List (FieldOf S))
    (rs : RawPairs) (x : S) : Type 0 where
  pub keys : AreFields keyed rs
  pub read : HasFields keyed 0 fields rs x

-- a struct of these fields, in any order, within tags
abbrev pub IsMapOf : {S : Type 0} → (Raw → Field → Type 0) → List (FieldOf S) → Raw → S → Type 0
IsMapOf keyed fields = PassesTags (AsMap (AreFieldsOf keyed fields))

-- a struct of fields with these names: each key is a number from 0 or a name, of a field or of none
abbrev pub IsStruct : {S : Type 0} → List (List ℕ) → List (FieldOf S) → Raw → S → Type 0
IsStruct names = IsMapOf (IsField names)

-- the texts of the errors of a field that isn't there, and of one that is there twice
abbrev pub missing_text : List ℕ → List ℕ
missing_text name = codes "missing field `" ++ name ++ codes "`"

abbrev pub duplicate_text : List ℕ → List ℕ
duplicate_text name = codes "duplicate field `" ++ name ++ codes "`"

-- ---- examples

-- {0: 7, 5: 8}, where the names are "a" and "b"
abbrev two_pairs : RawPairs
two_pairs = raw_pair (raw.unsigned no_bytes 0) (raw.unsigned no_bytes 7)
    (raw_pair (raw.unsigned one_byte 5) (raw.unsigned no_bytes 8) no_raw_pairs)

-- 0 is the first field, and 5 is none
keys_of_fields : AreFields (IsField ((0x61 ∷ []) ∷ (0x62 ∷ []) ∷ [])) two_pairs
keys_of_fields = ((Known 0, refl), ((Unknown, refl), tt))

-- so the second is absent
no_second : Absent (IsField ((0x61 ∷ []) ∷ (0x62 ∷ []) ∷ [])) 1 two_pairs
no_second = ((λ e. cc), ((λ e. cc), tt))
