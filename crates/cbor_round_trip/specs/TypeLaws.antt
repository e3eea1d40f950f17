-- The laws of types as values: of a type that is named, as the parts of a struct are, its law is at
-- hand by these.
use Rattle.std.proofs.Common.{◌≡◌, ◌&&◌, ℕ, ℤ, List, length, Bool, true, false, Option, Ordering, zero, suc, [], ◌∷◌, refl, ap}
use Rattle.std.specs.Cmp.{IsTotalOrder}
use Rattle.cbor_model.specs.Document.{Doc, Docs, Fields, structure}
use Rattle.cbor_model.specs.Raw.{Raw, Raws}
use Rattle.cbor_model.specs.Readable.{Context}
use Rattle.cbor_decode_as.specs.Enums.{Content}
use Rattle.cbor_de.specs.Structs.{FieldOf, IfAbsent}
use Rattle.cbor_parts.specs.Keys.{Keys, AreKeysOf, labelled_keys, named_keys}
use Rattle.cbor_ser.specs.Labels.{keyed_document, labelled}
use Rattle.cbor_round_trip.specs.StructFields.{AreFieldsReadBack, IsFieldReadBack, field_where_determined, fields_from, struct_back}
use Rattle.cbor_round_trip.specs.ReadBack.{IsReadBack, asking_more, by_part, where_determined}
use Rattle.cbor_round_trip.specs.Names.{are_distinct, are_distinct_labels, are_told_apart}
use Rattle.cbor_round_trip.specs.Keyed.{IsToldByDocuments}
use Rattle.cbor_round_trip.specs.Lists.{ArePartsReadBack}
use Rattle.cbor_round_trip.specs.Variants.{IsVariantReadBack}

-- ---- a type

-- What a value is written as, as what items are read, what is asked of a value, what determines the
-- values that are read, and that it is read back.
pub record Law (A : Type 0) : Type 1 where
  pub document : A → Doc
  pub reads : Context → Raw → A → Type 0
  pub fits : A → Type 0
  pub determined : Type 0
  pub back : IsReadBack document reads fits determined

abbrev pub law_of : {A : Type 0} {document : A → Doc} {reads : Context → Raw → A → Type 0} {fits : A → Type 0} {determined : Type 0}
    → IsReadBack document reads fits determined → Law A
law_of {document = document} {reads = reads} {fits = fits} {determined = determined} back =
    record { document = document; reads = reads; fits = fits; determined = determined; back = back }

-- What is asked by the words of a part's law as a value is asked by those of the part itself too: of a
-- part that is named the two are one.
abbrev pub law_asking : {A : Type 0} {document : A → Doc} {reads : Context → Raw → A → Type 0} {fits : A → Type 0} {determined : Type 0}
    (too : A → Type 0) → IsReadBack document reads fits determined → Law A
law_asking {fits = fits} too back = law_of (asking_more {more = λ x. fits x × too x} (λ x fit. fit.0) back)

-- and so what is asked of defaults
abbrev pub law_asking_both : {A : Type 0} {document : A → Doc} {reads : Context → Raw → A → Type 0} {fits : A → Type 0} {determined : Type 0}
    (too : A → Type 0) (also : Type 0) → IsReadBack document reads fits determined → Law A
law_asking_both {fits = fits} {determined = determined} too also back =
    law_of (where_determined {more = determined × also} (λ d. d.0) (asking_more {more = λ x. fits x × too x} (λ x fit. fit.0) back))

-- the law of a key's type, whose order its documents show
pub record KeyLaw (A : Type 0) : Type 1 where
  pub document : A → Doc
  pub reads : Context → Raw → A → Type 0
  pub fits : A → Type 0
  pub determined : Type 0
  pub back : IsReadBack document reads fits determined
  pub cmp : A → A → Ordering
  pub total : IsTotalOrder cmp
  pub reported : IsToldByDocuments document cmp

abbrev pub key_law : {A : Type 0} {document : A → Doc} {reads : Context → Raw → A → Type 0} {fits : A → Type 0}
    {determined : Type 0} {cmp : A → A → Ordering}
    → IsReadBack document reads fits determined → IsTotalOrder cmp → IsToldByDocuments document cmp → KeyLaw A
key_law {document = document} {reads = reads} {fits = fits} {determined = determined} {cmp = cmp} back total reported =
    record { document = document; reads = reads; fits = fits; determined = determined; back = back; cmp = cmp; total = total; reported = reported }

-- ---- the parts of a type by description

-- the law of the parts of a variant
pub record TupleLaw (A : Type 0) : Type 1 where
  pub documents : A → Docs
  pub reads : Context → A → Raws → Type 0
  pub fits : A → Type 0
  pub determined : Type 0
  pub back : ArePartsReadBack documents reads fits determined

abbrev pub tuple_law : {A : Type 0} {documents : A → Docs} {reads : Context → A → Raws → Type 0} {fits : A → Type 0} {determined : Type 0}
    → ArePartsReadBack documents reads fits determined → TupleLaw A
tuple_law {documents = documents} {reads = reads} {fits = fits} {determined = determined} back =
    record { documents = documents; reads = reads; fits = fits; determined = determined; back = back }

-- the law of a variant
pub record VariantLaw (A : Type 0) : Type 1 where
  pub document : ℕ → List ℕ → A → Doc
  pub means : Context → Content → A → Type 0
  pub fits : A → Type 0
  pub determined : Type 0
  pub back : IsVariantReadBack document means fits determined

abbrev pub variant_law : {A : Type 0} {document : ℕ → List ℕ → A → Doc} {means : Context → Content → A → Type 0} {fits : A → Type 0} {determined : Type 0}
    → IsVariantReadBack document means fits determined → VariantLaw A
variant_law {document = document} {means = means} {fits = fits} {determined = determined} back =
    record { document = document; means = means; fits = fits; determined = determined; back = back }

-- By so many keys, no two of them the same, the fields are read back.
abbrev pub ByKeys : {A : Type 0} → ℕ → (List (List ℕ) → A → Fields) → (Keys → Context → Raw → A → Type 0)
    → (A → Type 0) → Type 0 → Type 0
ByKeys count fields reads fits determined = (keys : Keys) → AreKeysOf count keys → are_told_apart keys ≡ true
    → IsReadBack (λ x. keyed_document keys.labels (fields keys.names x)) (reads keys) fits determined

-- By so many names, which are told apart, the parts are read back.
abbrev pub ByNames : {A : Type 0} → ℕ → (List (List ℕ) → Bool) → (List (List ℕ) → A → Doc)
    → (List (List ℕ) → Context → Raw → A → Type 0) → (A → Type 0) → Type 0 → Type 0
ByNames count told document reads fits determined = (names : List (List ℕ)) → length names ≡ count
    → told names ≡ true → IsReadBack (document names) (reads names) fits determined

-- and so fields are by their names
pub by_names_alone : {A : Type 0} {count : ℕ} (fields : List (List ℕ) → A → Fields) {reads : Keys → Context → Raw → A → Type 0} {fits : A → Type 0} {determined : Type 0}
    → ByKeys count fields reads fits determined
    → ByNames count are_distinct (λ names x. structure (fields names x)) (λ names. reads (named_keys names)) fits determined
by_names_alone fields back names as_many distinct = back (named_keys names) (as_many, tt) distinct

-- the law of a field, which may be absent
pub record FieldLaw (A : Type 0) : Type 1 where
  pub document : A → Option Doc
  pub reads : Context → Raw → A → Type 0
  pub missing : IfAbsent A
  pub fits : A → Type 0
  pub determined : Type 0
  pub back : IsFieldReadBack document reads missing fits determined

abbrev pub field_law : {A : Type 0} {document : A → Option Doc} {reads : Context → Raw → A → Type 0} {missing : IfAbsent A}
    {fits : A → Type 0} {determined : Type 0}
    → IsFieldReadBack document reads missing fits determined → FieldLaw A
field_law {document = document} {reads = reads} {missing = missing} {fits = fits} {determined = determined} back =
    record { document = document; reads = reads; missing = missing; fits = fits; determined = determined; back = back }

-- where more is asked of its default, by the words of the part itself
abbrev pub field_law_asking : {A : Type 0} {document : A → Option Doc} {reads : Context → Raw → A → Type 0} {missing : IfAbsent A}
    {fits : A → Type 0} {determined : Type 0}
    (also : Type 0) → IsFieldReadBack document reads missing fits determined → FieldLaw A
field_law_asking {determined = determined} also back =
    field_law (field_where_determined {more = determined × also} (λ d. d.0) back)

-- the law of the fields of a struct
pub record FieldsLaw (A : Type 0) : Type 1 where
  pub count : ℕ
  pub fields : List (List ℕ) → A → Fields
  pub reads : Keys → Context → Raw → A → Type 0
  pub fits : A → Type 0
  pub determined : Type 0
  pub back : ByKeys count fields reads fits determined

abbrev pub fields_law : {A : Type 0} (count : ℕ) (fields : List (List ℕ) → A → Fields)
    {reads : Keys → Context → Raw → A → Type 0} {fits : A → Type 0} {determined : Type 0}
    → ByKeys count fields reads fits determined → FieldsLaw A
fields_law count fields {reads = reads} {fits = fits} {determined = determined} back =
    record { count = count; fields = fields; reads = reads; fits = fits; determined = determined; back = back }

-- the law of a struct whose fields are so many, and are read back
abbrev pub struct_law : {T S : Type 0} {view : T → S} {documents : T → List (Option Doc)} {fields : Context → List (FieldOf S)}
    {fits : T → Type 0} {determined : Type 0} (count : ℕ)
    → AreFieldsReadBack view documents fields fits determined → ((t : T) → length (documents t) ≡ count) → FieldsLaw T
struct_law {documents = documents} count law counted =
    fields_law count (λ names t. fields_from names 0 (documents t)) (struct_back law counted)

-- the law of the parts of a struct or an enum
pub record PartsLaw (A : Type 0) : Type 1 where
  pub count : ℕ
  pub told : List (List ℕ) → Bool
  pub document : List (List ℕ) → A → Doc
  pub reads : List (List ℕ) → Context → Raw → A → Type 0
  pub fits : A → Type 0
  pub determined : Type 0
  pub back : ByNames count told document reads fits determined

abbrev pub parts_law : {A : Type 0} (count : ℕ) {told : List (List ℕ) → Bool} {document : List (List ℕ) → A → Doc}
    {reads : List (List ℕ) → Context → Raw → A → Type 0} {fits : A → Type 0} {determined : Type 0}
    → ByNames count told document reads fits determined → PartsLaw A
parts_law count {told = told} {document = document} {reads = reads} {fits = fits} {determined = determined} back =
    record { count = count; told = told; document = document; reads = reads; fits = fits; determined = determined; back = back }

-- ---- fields whose keys are labels

-- whether there are so many labels
abbrev pub are_so_many : ℕ → List ℤ → Bool
are_so_many zero [] = true
are_so_many zero (l ∷ ls) = false
are_so_many (suc n) [] = false
are_so_many (suc n) (l ∷ ls) = are_so_many n ls

-- and no two of them are the same
abbrev pub are_labels_of : ℕ → List ℤ → Bool
are_labels_of n labels = are_so_many n labels && are_distinct_labels labels

so_many : (n : ℕ) (ls : List ℤ) → are_so_many n ls ≡ true → length ls ≡ n
so_many zero [] is = refl
so_many zero (l ∷ ls) is = absurd cc
so_many (suc n) [] is = absurd cc
so_many (suc n) (l ∷ ls) is = ap suc (so_many n ls is)

each : (a b : Bool) → (a && b) ≡ true → (a ≡ true) × (b ≡ true)
each true b h = (refl, h)
each false b h = absurd cc

pub labelled_back : {A : Type 0} {count : ℕ} (fields : List (List ℕ) → A → Fields) {reads : Keys → Context → Raw → A → Type 0} {fits : A → Type 0} {determined : Type 0}
    (labels : List ℤ) → ByKeys count fields reads fits determined
    → ByNames count (λ names. are_labels_of count labels) (λ names x. labelled labels (fields names x)) (λ names. reads (labelled_keys names labels)) fits determined
labelled_back {count = count} fields labels back names as_many told =
    let both = each (are_so_many count labels) (are_distinct_labels labels) told in
    back (labelled_keys names labels) (as_many, so_many count labels both.0) both.1

-- The law of a type that is described by these names and parts.
abbrev pub by_description : {A B : Type 0} (names : List (List ℕ)) (parts : B → A) (law : PartsLaw A)
    → length names ≡ law.count → law.told names ≡ true → Law B
by_description names parts law as_many told = law_of (by_part parts (law.back names as_many told))

-- The law of a type by its description: the type has it where its names are as many as its parts, and
-- no two of them, or of its labels, the same.
pub record DescribedLaw (A : Type 0) : Type 1 where
  pub names : List (List ℕ)
  pub count : ℕ
  pub told : Bool
  pub by_names : length names ≡ count → told ≡ true → Law A

abbrev pub described_law : {A B : Type 0} (names : List (List ℕ)) (parts : B → A) (law : PartsLaw A) → DescribedLaw B
described_law names parts law =
    record { names = names; count = law.count; told = law.told names; by_names = by_description names parts law }
