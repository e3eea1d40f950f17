-- The fields that keys name.
use Rattle.std.proofs.Common.{◌≡◌, ◌∙◌, ℕ, ℤ, suc, pos, Bool, Bor, List, [], ◌∷◌, length, Some, None, Ok, refl, ap, subst}
use Rattle.std.specs.Prelude.{nat_lt, if◌then◌else◌}
use Rattle.cbor_model.specs.Formats.{Formats}
use Rattle.cbor_model.specs.Raw as raw
use Rattle.cbor_model.specs.Raw.{Raw}
use Rattle.cbor_model.specs.Readable.{IsFromZero, IsSigned, PassesTags, untagged}
use Rattle.cbor_model.specs.Reader.{item_at}
use Rattle.cbor_read.specs.Source.{Input}
use Rattle.cbor_io.specs.declared.error.ErrorCode.{ErrorCode}
use Rattle.cbor_io.specs.declared.read_error.ReadErrorCode.{ReadErrorCode}
use Rattle.cbor_decode_as.specs.Identifiers.{IsIdentifier, IsLabel, IsPlace, place_of, texts}
use Rattle.cbor_de.specs.Structs.{IsAny, IsField, IsLabelled, place_in}
use Rattle.cbor_de.specs.declared.field.Field.{Field}
use Rattle.cbor_decode_as.specs.Takes.{raws, IsNotRead, IsRead, Refuses, TakesItem}
use Rattle.cbor_decode.proofs.facts.Steps.{step_map}
use Rattle.cbor_decode_as.proofs.facts.Readings.{refuses_map}

-- ---- numbers

length_texts : (ns : List (Bor (List ℕ))) → length (texts ns) ≡ length ns
length_texts [] = refl
length_texts (n ∷ ns) = ap suc (length_texts ns)

pub number_place : (ns : List (Bor (List ℕ))) (n : ℕ) → place_of (texts ns) n ≡ (if nat_lt n (length ns) then Some n else None)
number_place ns n = ap (λ (k : ℕ). if nat_lt n k then Some n else None) (length_texts ns)

one_number : (n m : ℕ) → pos n ≡ pos m → n ≡ m
one_number n m e = cc

-- a number from 0 names the field in its place
names_field : (names : List (List ℕ)) (most n : ℕ) (field : Field) → place_in field ≡ place_of names n → (r : Raw) → IsFromZero most r n → IsIdentifier names r (place_in field)
names_field names most n field at (raw.unsigned w m) is = at ∙ ap (place_of names) (one_number n m is.0)
names_field names most n field at (raw.negative w m) is = absurd cc
names_field names most n field at (raw.bytes c) is = absurd is.0
names_field names most n field at (raw.text c) is = absurd is.0
names_field names most n field at (raw.bytes_chunks cs) is = absurd is.0
names_field names most n field at (raw.text_chunks cs) is = absurd is.0
names_field names most n field at (raw.array l rs) is = absurd is.0
names_field names most n field at (raw.map l ps) is = absurd is.0
names_field names most n field at (raw.tag w k r) is = absurd is.0
names_field names most n field at (raw.simple s) is = absurd is.0
names_field names most n field at (raw.float w bits) is = absurd is.0

-- so the field is read that a number names
pub number_read : (names : List (List ℕ)) (allowed : ReadErrorCode → Bool) (f : Formats) (levels : ℕ) (s t : Input) (most n : ℕ) (field : Field) → place_in field ≡ place_of names n
    → TakesItem allowed f (PassesTags (IsFromZero most)) levels s t (Ok n) → TakesItem allowed f (IsField names) levels s t (Ok field)
number_read names allowed f levels s t most n field at =
    step_map s t (λ l bs rest. IsRead (PassesTags (IsFromZero most)) (item_at (raws f l) levels bs) n rest) (λ l bs rest. IsRead (IsField names) (item_at (raws f l) levels bs) field rest)
    (λ l bs rest read. record { item = read.item; is = read.is; means = names_field names most n field at (untagged read.item) read.means })

-- ---- labels

-- an integer means the field whose label it is
label_means : (labels : List ℤ) (most : ℕ) (z : ℤ) (field : Field) → IsPlace labels z (place_in field) → (r : Raw) → IsSigned most r z → IsLabel labels r (place_in field)
label_means labels most z field at (raw.unsigned w m) is = subst (λ (x : ℤ). IsPlace labels x (place_in field)) is.0 at
label_means labels most z field at (raw.negative w m) is = subst (λ (x : ℤ). IsPlace labels x (place_in field)) is.0 at
label_means labels most z field at (raw.bytes c) is = absurd is.0
label_means labels most z field at (raw.text c) is = absurd is.0
label_means labels most z field at (raw.bytes_chunks cs) is = absurd is.0
label_means labels most z field at (raw.text_chunks cs) is = absurd is.0
label_means labels most z field at (raw.array l rs) is = absurd is.0
label_means labels most z field at (raw.map l ps) is = absurd is.0
label_means labels most z field at (raw.tag w k r) is = absurd is.0
label_means labels most z field at (raw.simple s) is = absurd is.0
label_means labels most z field at (raw.float w bits) is = absurd is.0

-- so the field is read whose label an integer is
pub label_read : (labels : List ℤ) (allowed : ReadErrorCode → Bool) (f : Formats) (levels : ℕ) (s t : Input) (most : ℕ) (z : ℤ) (field : Field) → IsPlace labels z (place_in field)
    → TakesItem allowed f (PassesTags (IsSigned most)) levels s t (Ok z) → TakesItem allowed f (IsLabelled labels) levels s t (Ok field)
label_read labels allowed f levels s t most z field at =
    step_map s t (λ l bs rest. IsRead (PassesTags (IsSigned most)) (item_at (raws f l) levels bs) z rest) (λ l bs rest. IsRead (IsLabelled labels) (item_at (raws f l) levels bs) field rest)
    (λ l bs rest read. record { item = read.item; is = read.is; means = label_means labels most z field at (untagged read.item) read.means })

-- what is no label names no field
pub no_label : {w : Input} (labels : List ℤ) (allowed : ReadErrorCode → Bool) (f : Formats) (levels : ℕ) (s : Input) (k : ErrorCode) (at : ℕ)
    → Refuses allowed s w k at (λ l bs. IsNotRead (PassesTags (IsLabel labels)) (item_at (raws f l) levels bs)) → Refuses allowed s w k at (λ l bs. IsNotRead (IsLabelled labels) (item_at (raws f l) levels bs))
no_label labels allowed f levels s k at =
    refuses_map allowed s k at (λ l bs. IsNotRead (PassesTags (IsLabel labels)) (item_at (raws f l) levels bs)) (λ l bs. IsNotRead (IsLabelled labels) (item_at (raws f l) levels bs))
    (λ l bs none field rest read. none (place_in field) rest (record { item = read.item; is = read.is; means = read.means }))

-- ---- other keys

-- what names nothing names no field
pub no_field : {w : Input} (names : List (List ℕ)) (allowed : ReadErrorCode → Bool) (f : Formats) (levels : ℕ) (s : Input) (k : ErrorCode) (at : ℕ)
    → Refuses allowed s w k at (λ l bs. IsNotRead (PassesTags (IsIdentifier names)) (item_at (raws f l) levels bs)) → Refuses allowed s w k at (λ l bs. IsNotRead (IsField names) (item_at (raws f l) levels bs))
no_field names allowed f levels s k at =
    refuses_map allowed s k at (λ l bs. IsNotRead (PassesTags (IsIdentifier names)) (item_at (raws f l) levels bs)) (λ l bs. IsNotRead (IsField names) (item_at (raws f l) levels bs))
    (λ l bs none field rest read. none (place_in field) rest (record { item = read.item; is = read.is; means = read.means }))

-- no item at all is there where none is read that is always read
pub no_item : {A : Type 0} {w : Input} (reads : Raw → A → Type 0) (x : A) → ((r : Raw) → reads r x) → (allowed : ReadErrorCode → Bool) (f : Formats) (levels : ℕ) (s : Input) (k : ErrorCode) (at : ℕ)
    → Refuses allowed s w k at (λ l bs. IsNotRead reads (item_at (raws f l) levels bs)) → Refuses allowed s w k at (λ l bs. IsNotRead IsAny (item_at (raws f l) levels bs))
no_item reads x always allowed f levels s k at =
    refuses_map allowed s k at (λ l bs. IsNotRead reads (item_at (raws f l) levels bs)) (λ l bs. IsNotRead IsAny (item_at (raws f l) levels bs))
    (λ l bs none u rest read. none x rest (record { item = read.item; is = read.is; means = always read.item }))
