-- Structs of fields that are read back are read back, where their names, or labels, are told apart.
use Rattle.std.proofs.Common.{◌≡◌, ◌<◌, ◌≤◌, ◌+◌, ℕ, ℤ, suc, Bool, true, Option, Some, None, List, [], ◌∷◌, length, refl, sym, ap, ap₂, ◌∙◌, subst, arith, inl, inr}
use Rattle.std.specs.Prelude.{◌⊎◌}
use Rattle.cbor_model.specs.Canonical.{canonical_integer}
use Rattle.cbor_model.specs.Document.{Doc, Fields, no_fields, field, identifier, declared, map_of, raw_of, raw_fields_of, raw_pairs_of}
use Rattle.cbor_model.specs.Formats.{all_formats}
use Rattle.cbor_model.specs.Raw.{Raw, RawPairs, raw_pair, no_raw_pairs}
use Rattle.cbor_model.specs.Readable.{Context, untagged}
use Rattle.cbor_read.specs.Source.{Lends}
use Rattle.cbor_decode_as.specs.Takes.{lending}
use Rattle.cbor_parts.specs.Keys.{Keys, AreKeysOf}
use Rattle.cbor_ser.specs.Labels.{keyed_document, label_in, labelled_pairs}
use Rattle.cbor_ser.specs.PartLists.{name_in, document_if, field_if}
use Rattle.cbor_de.specs.FieldTypes.{IsGiven}
use Rattle.cbor_de.specs.Structs.{IsKeyed, FieldOf, field_or, IfAbsent, refused, taken, AreFields, AreFieldsOf, Absent, Once, IsFieldOr, IsFieldRead, HasFields, IsMapOf}
use Rattle.cbor_de.specs.declared.field.Field.TheVariants.{Known}
use Rattle.cbor_round_trip.specs.OneReading.{in_map}
use Rattle.cbor_round_trip.specs.ReadBack.{IsReadBack}
use Rattle.cbor_round_trip.specs.Names.{are_told_apart, key_of, key_place, one_key}

-- the fields with these documents, from the place k on; one without a document is left out
abbrev pub fields_from : List (List ℕ) → ℕ → List (Option Doc) → Fields
fields_from names k [] = no_fields
fields_from names k (o ∷ os) = field_if k (name_in names k) o (fields_from names (suc k) os)

-- the field in this place is there once, and its document is this; or it isn't there
abbrev pub Holds : Keys → Bool → Bool → ℕ → Option Doc → RawPairs → Type 0
Holds keys p g i None rs = Absent (IsKeyed keys) i rs
Holds keys p g i (Some d) rs = Once (IsKeyed keys) i rs (raw_of d p g)

-- so each field from the i-th on
abbrev pub Hold : Keys → Bool → Bool → ℕ → List (Option Doc) → RawPairs → Type 0
Hold keys p g i [] rs = Unit {0}
Hold keys p g i (o ∷ os) rs = Holds keys p g i o rs × Hold keys p g (suc i) os rs

-- one item alone is a field's
one_item : (keys : Keys) (i : ℕ) (rs : RawPairs) (v w : Raw)
    → Once (IsKeyed keys) i rs v → Once (IsKeyed keys) i rs w → v ≡ w
one_item keys i no_raw_pairs v w one two = absurd one
one_item keys i (raw_pair k u rs) v w (inl one) (inl two) = sym one.1 ∙ two.1
one_item keys i (raw_pair k u rs) v w (inl one) (inr two) = absurd (two.0 one.0)
one_item keys i (raw_pair k u rs) v w (inr one) (inl two) = absurd (one.0 two.0)
one_item keys i (raw_pair k u rs) v w (inr one) (inr two) = one_item keys i rs v w one.1 two.1

-- a field that is there isn't absent
not_absent : (keys : Keys) (i : ℕ) (rs : RawPairs) (v : Raw)
    → Once (IsKeyed keys) i rs v → Absent (IsKeyed keys) i rs → ⊥
not_absent keys i no_raw_pairs v once absent = once
not_absent keys i (raw_pair k u rs) v (inl once) absent = absent.0 once.0
not_absent keys i (raw_pair k u rs) v (inr once) absent = not_absent keys i rs v once.1 absent.1

-- The pairs of fields under their keys, packed or not.
abbrev keyed_pairs : Option (List ℤ) → Fields → Bool → Bool → RawPairs
keyed_pairs labels no_fields p g = no_raw_pairs
keyed_pairs labels (field i n d fs) p g = raw_pair (key_of labels p i n) (raw_of d p g) (keyed_pairs labels fs p g)

named_pairs : (fs : Fields) (p g : Bool) → raw_fields_of fs p g ≡ keyed_pairs None fs p g
unfolding raw_fields_of
named_pairs no_fields p g = refl
named_pairs (field i n d fs) p g = ap (λ rs. raw_pair (identifier p i n) (raw_of d p g) rs) (named_pairs fs p g)

pairs_by_labels : (labels : List ℤ) (fs : Fields) (p g : Bool) → raw_pairs_of (labelled_pairs labels fs) p g ≡ keyed_pairs (Some labels) fs p g
unfolding raw_pairs_of raw_of
pairs_by_labels labels no_fields p g = refl
pairs_by_labels labels (field i n d fs) p g =
    ap (λ rs. raw_pair (canonical_integer (label_in labels i)) (raw_of d p g) rs) (pairs_by_labels labels fs p g)

-- the item of a struct
keyed_item : (labels : Option (List ℤ)) (fs : Fields) (p g : Bool) → raw_of (keyed_document labels fs) p g ≡ map_of declared (keyed_pairs labels fs p g)
unfolding raw_of
keyed_item None fs p g = ap (map_of declared) (named_pairs fs p g)
keyed_item (Some labels) fs p g = ap (map_of declared) (pairs_by_labels labels fs p g)

module _ {n : ℕ} (keys : Keys) (as_many : AreKeysOf n keys) (told : are_told_apart keys ≡ true) (p g : Bool) where
  abbrev key : ℕ → Raw
  key k = key_of keys.labels p k (name_in keys.names k)

  abbrev pairs : ℕ → List (Option Doc) → RawPairs
  pairs k os = keyed_pairs keys.labels (fields_from keys.names k os) p g

  are_fields : (k : ℕ) (os : List (Option Doc)) → k + length os ≤ n → AreFields (IsKeyed keys) (pairs k os)
  are_fields k [] within = tt
  are_fields k (None ∷ os) within = are_fields (suc k) os (omega (arith, within))
  are_fields k (Some d ∷ os) within =
      ((Known k, key_place keys as_many told p k (omega (arith, within))), are_fields (suc k) os (omega (arith, within)))

  none_behind : (i k : ℕ) (os : List (Option Doc)) → i < k → k + length os ≤ n → Absent (IsKeyed keys) i (pairs k os)
  none_behind i k [] before within = tt
  none_behind i k (None ∷ os) before within = none_behind i (suc k) os (omega (arith, before)) (omega (arith, within))
  none_behind i k (Some d ∷ os) before within = (
    (λ reported. let same = one_key keys as_many told p k i (omega (arith, within)) reported in omega (arith, before, same)),
    none_behind i (suc k) os (omega (arith, before)) (omega (arith, within)),
  )

  -- after a field's pair are those of later fields
  holds_behind : (k i : ℕ) (o : Option Doc) (v : Raw) (rs : RawPairs) → k < i → k < n
      → Holds keys p g i o rs → Holds keys p g i o (raw_pair (key k) v rs)
  holds_behind k i None v rs before within h =
      ((λ reported. let same = one_key keys as_many told p k i within reported in omega (arith, before, same)), h)
  holds_behind k i (Some d) v rs before within h =
      inr ((λ reported. let same = one_key keys as_many told p k i within reported in omega (arith, before, same)), h)

  hold_behind : (k i : ℕ) (os : List (Option Doc)) (v : Raw) (rs : RawPairs) → k < i → k < n
      → Hold keys p g i os rs → Hold keys p g i os (raw_pair (key k) v rs)
  hold_behind k i [] v rs before within h = tt
  hold_behind k i (o ∷ os) v rs before within h = (
    holds_behind k i o v rs before within h.0,
    hold_behind k (suc i) os v rs (omega (arith, before)) within h.1,
  )

  all_hold : (k : ℕ) (os : List (Option Doc)) → k + length os ≤ n → Hold keys p g k os (pairs k os)
  all_hold k [] within = tt
  all_hold k (None ∷ os) within =
      (none_behind k (suc k) os (omega arith) (omega (arith, within)), all_hold (suc k) os (omega (arith, within)))
  all_hold k (Some d ∷ os) within = (
    inl (key_place keys as_many told p k (omega (arith, within)), refl, none_behind k (suc k) os (omega arith) (omega (arith, within))),
    hold_behind k (suc k) os (raw_of d p g) (pairs (suc k) os) (omega arith) (omega (arith, within)) (all_hold (suc k) os (omega (arith, within))),
  )

-- ---- one field

-- Where a field holds its document, or is absent as it has none, it is read as itself, and as none of
-- another document.
pub record IsFieldReadBack {A : Type 0} (document : A → Option Doc) (reads : Context → Raw → A → Type 0) (missing : IfAbsent A) (fits : A → Type 0) (determined : Type 0) : Type 0 where
  pub itself : (x : A) → fits x → (l : Lends) (p g : Bool) (keys : Keys) (i : ℕ) (rs : RawPairs)
      → Holds keys p g i (document x) rs → IsFieldOr missing (IsKeyed keys) i (reads (lending all_formats l)) rs x
  pub alone : (x y : A) → fits x → (l : Lends) (p g : Bool) (keys : Keys) (i : ℕ) (rs : RawPairs)
      → Holds keys p g i (document x) rs → IsFieldOr missing (IsKeyed keys) i (reads (lending all_formats l)) rs y
      → document y ≡ document x
  pub single : determined → (c : Context) (keys : Keys) (i : ℕ) (rs : RawPairs) (x y : A)
      → IsFieldOr missing (IsKeyed keys) i (reads c) rs x → IsFieldOr missing (IsKeyed keys) i (reads c) rs y → document x ≡ document y

-- Where more is asked of its default, it is read back too.
pub field_where_determined : {A : Type 0} {document : A → Option Doc} {reads : Context → Raw → A → Type 0} {missing : IfAbsent A} {fits : A → Type 0} {determined more : Type 0}
    → (more → determined) → IsFieldReadBack document reads missing fits determined → IsFieldReadBack document reads missing fits more
field_where_determined less law = record {
  itself = law.itself;
  alone = law.alone;
  single = λ d. law.single (less d);
}

-- each default is of one document
abbrev pub OneDefault : {A F : Type 0} → (A → Doc) → (F → A) → (F → Type 0) → Type 0
OneDefault {F = F} document part default = (x y : F) → default x → default y → document (part x) ≡ document (part y)

-- what the law asks of what may be absent
abbrev pub FitsIfThere : {A : Type 0} → (A → Type 0) → Option A → Type 0
FitsIfThere fits None = Unit {0}
FitsIfThere fits (Some x) = fits x

module _ {A : Type 0} {document : A → Doc} {reads : Context → Raw → A → Type 0} {fits : A → Type 0} {determined : Type 0} (law : IsReadBack document reads fits determined) where
  -- the item of a field has one document
  one_read : determined → (c : Context) (keys : Keys) (i : ℕ) (rs : RawPairs) (x y : A)
      → IsFieldRead (IsKeyed keys) i (reads c) rs x → IsFieldRead (IsKeyed keys) i (reads c) rs y → document x ≡ document y
  one_read d c keys i rs x y h k =
      law.single d c k.0 x y (subst (λ (r : Raw). reads c r x) (one_item keys i rs h.0 k.0 h.1 k.1) h.2) k.2

  -- an item that is read has the document of the one that was written
  one_document : (x y : A) → fits x → (l : Lends) (p g : Bool) (keys : Keys) (i : ℕ) (rs : RawPairs) (v : Raw)
      → Once (IsKeyed keys) i rs (raw_of (document x) p g) → Once (IsKeyed keys) i rs v → reads (lending all_formats l) v y
      → document y ≡ document x
  one_document x y fit l p g keys i rs v once here read =
      let same = one_item keys i rs v (raw_of (document x) p g) here once in
      law.alone x y fit l p g (subst (λ (r : Raw). reads (lending all_formats l) r y) same read)

  -- a field that has to be there
  pub required_back : IsFieldReadBack (λ x. Some (document x)) reads refused fits determined
  required_back = record {
    itself = λ x fit l p g keys i rs h. (raw_of (document x) p g, h, law.itself x fit l p g);
    alone = λ x y fit l p g keys i rs h read.
        ap (λ (d : Doc). Some d) (one_document x y fit l p g keys i rs read.0 h read.1 read.2);
    single = λ d c keys i rs x y h k. ap (λ (e : Doc). Some e) (one_read d c keys i rs x y h k);
  }

  module _ {F : Type 0} (part : F → A) (default : F → Type 0) where
    default_alone : (x y : F) → fits (part x) → (l : Lends) (p g : Bool) (keys : Keys) (i : ℕ) (rs : RawPairs)
        → Once (IsKeyed keys) i rs (raw_of (document (part x)) p g)
        → IsFieldOr (taken default) (IsKeyed keys) i (λ r z. reads (lending all_formats l) r (part z)) rs y
        → document (part y) ≡ document (part x)
    default_alone x y fit l p g keys i rs h (inl read) = one_document (part x) (part y) fit l p g keys i rs read.0 h read.1 read.2
    default_alone x y fit l p g keys i rs h (inr absent) = absurd (not_absent keys i rs (raw_of (document (part x)) p g) h absent.0)

    -- what is there, or the default
    abbrev IsThereOr : Context → Keys → ℕ → RawPairs → F → Type 0
    IsThereOr c keys i rs = IsFieldOr (taken default) (IsKeyed keys) i (λ r z. reads c r (part z)) rs

    default_one : determined × OneDefault document part default → (c : Context) (keys : Keys) (i : ℕ) (rs : RawPairs) (x y : F)
        → IsThereOr c keys i rs x → IsThereOr c keys i rs y → document (part x) ≡ document (part y)
    default_one d c keys i rs x y (inl h) (inl k) = one_read d.0 c keys i rs (part x) (part y) h k
    default_one d c keys i rs x y (inl h) (inr k) = absurd (not_absent keys i rs h.0 h.1 k.0)
    default_one d c keys i rs x y (inr h) (inl k) = absurd (not_absent keys i rs k.0 k.1 h.0)
    default_one d c keys i rs x y (inr h) (inr k) = d.1 x y h.1 k.1

    -- one that is always written, and a default where it isn't read
    pub default_back : IsFieldReadBack (λ x. Some (document (part x))) (λ c r x. reads c r (part x)) (taken default) (λ x. fits (part x)) (determined × OneDefault document part default)
    default_back = record {
      itself = λ x fit l p g keys i rs h. inl (raw_of (document (part x)) p g, h, law.itself (part x) fit l p g);
      alone = λ x y fit l p g keys i rs h read. ap (λ (d : Doc). Some d) (default_alone x y fit l p g keys i rs h read);
      single = λ d c keys i rs x y h k. ap (λ (e : Doc). Some e) (default_one d c keys i rs x y h k);
    }

  module _ (l : Lends) (p g : Bool) (keys : Keys) (i : ℕ) (rs : RawPairs) where
    -- what may be absent is this
    abbrev IsThere : Option A → Type 0
    IsThere o = ((v : Raw) × Once (IsKeyed keys) i rs v × IsGiven (reads (lending all_formats l)) v o) ⊎ (Absent (IsKeyed keys) i rs × (o ≡ None))

    optional_itself : (o : Option A) → FitsIfThere fits o → Holds keys p g i (document_if document o) rs → IsThere o
    optional_itself None fit h = inr (h, refl)
    optional_itself (Some x) fit h = inl (raw_of (document x) p g, h, law.itself x fit l p g)

    optional_alone : (o q : Option A) → FitsIfThere fits o → Holds keys p g i (document_if document o) rs → IsThere q
        → document_if document q ≡ document_if document o
    optional_alone None None fit h read = refl
    optional_alone None (Some y) fit h (inl read) = absurd (not_absent keys i rs read.0 read.1 h)
    optional_alone None (Some y) fit h (inr absent) = let none = absent.1 in absurd cc
    optional_alone (Some x) None fit h (inl read) = absurd read.2
    optional_alone (Some x) None fit h (inr absent) = absurd (not_absent keys i rs (raw_of (document x) p g) h absent.0)
    optional_alone (Some x) (Some y) fit h (inl read) =
        ap (λ (d : Doc). Some d) (one_document x y fit l p g keys i rs read.0 h read.1 read.2)
    optional_alone (Some x) (Some y) fit h (inr absent) = let none = absent.1 in absurd cc

  module _ (d : determined) (c : Context) (keys : Keys) (i : ℕ) (rs : RawPairs) where
    abbrev IsHere : Option A → Type 0
    IsHere o = ((v : Raw) × Once (IsKeyed keys) i rs v × IsGiven (reads c) v o) ⊎ (Absent (IsKeyed keys) i rs × (o ≡ None))

    optional_one : (o q : Option A) → IsHere o → IsHere q → document_if document o ≡ document_if document q
    optional_one None None h k = refl
    optional_one None (Some y) (inl h) k = absurd h.2
    optional_one None (Some y) (inr h) (inl k) = absurd (not_absent keys i rs k.0 k.1 h.0)
    optional_one None (Some y) (inr h) (inr k) = let none = k.1 in absurd cc
    optional_one (Some x) None h (inl k) = absurd k.2
    optional_one (Some x) None (inl h) (inr k) = absurd (not_absent keys i rs h.0 h.1 k.0)
    optional_one (Some x) None (inr h) (inr k) = let none = h.1 in absurd cc
    optional_one (Some x) (Some y) (inl h) (inl k) = ap (λ (e : Doc). Some e) (one_read d c keys i rs x y h k)
    optional_one (Some x) (Some y) (inr h) k = let none = h.1 in absurd cc
    optional_one (Some x) (Some y) (inl h) (inr k) = let none = k.1 in absurd cc

  -- one that is left out where it is None
  pub optional_back : {F : Type 0} {part : F → Option A}
      → IsFieldReadBack (λ x. document_if document (part x)) (λ c r x. IsGiven (reads c) r (part x)) (taken (λ x. part x ≡ None)) (λ x. FitsIfThere fits (part x)) determined
  optional_back {part = part} = record {
    itself = λ x fit l p g keys i rs h. optional_itself l p g keys i rs (part x) fit h;
    alone = λ x y fit l p g keys i rs h read. optional_alone l p g keys i rs (part x) (part y) fit h read;
    single = λ d c keys i rs x y h k. optional_one d c keys i rs (part x) (part y) h k;
  }

-- ---- the fields of a tuple

-- Where the fields from the i-th on hold these documents, they are read as those of the tuple.
pub record AreFieldsReadBack {T S : Type 0} (view : T → S) (documents : T → List (Option Doc)) (fields : Context → List (FieldOf S)) (fits : T → Type 0) (determined : Type 0) : Type 0 where
  pub itself : (t : T) → fits t → (l : Lends) (p g : Bool) (keys : Keys) (i : ℕ) (rs : RawPairs)
      → Hold keys p g i (documents t) rs → HasFields (IsKeyed keys) i (fields (lending all_formats l)) rs (view t)
  pub alone : (t u : T) → fits t → (l : Lends) (p g : Bool) (keys : Keys) (i : ℕ) (rs : RawPairs)
      → Hold keys p g i (documents t) rs → HasFields (IsKeyed keys) i (fields (lending all_formats l)) rs (view u)
      → documents u ≡ documents t
  pub single : determined → (c : Context) (keys : Keys) (i : ℕ) (rs : RawPairs) (t u : T)
      → HasFields (IsKeyed keys) i (fields c) rs (view t) → HasFields (IsKeyed keys) i (fields c) rs (view u) → documents t ≡ documents u

module _ {A T S : Type 0} {view : T → S} {of : S → A} {document : A → Option Doc} {reads : Context → Raw → A → Type 0} {missing : IfAbsent A} {fits : A → Type 0} {determined : Type 0} (law : IsFieldReadBack document reads missing fits determined) where
  pub last_field_back : AreFieldsReadBack view (λ t. document (of (view t)) ∷ [])
      (λ c. field_or (reads c) missing of ∷ []) (λ t. fits (of (view t))) determined
  last_field_back = record {
    itself = λ t fit l p g keys i rs h. (law.itself (of (view t)) fit l p g keys i rs h.0, tt);
    alone = λ t u fit l p g keys i rs h read.
        ap (λ (o : Option Doc). o ∷ []) (law.alone (of (view t)) (of (view u)) fit l p g keys i rs h.0 read.0);
    single = λ d c keys i rs t u h k. ap (λ (o : Option Doc). o ∷ []) (law.single d c keys i rs (of (view t)) (of (view u)) h.0 k.0);
  }

  pub field_back : {documents : T → List (Option Doc)} {others : Context → List (FieldOf S)} {others_fit : T → Type 0} {others_determined : Type 0}
      → AreFieldsReadBack view documents others others_fit others_determined
      → AreFieldsReadBack view (λ t. document (of (view t)) ∷ documents t)
      (λ c. field_or (reads c) missing of ∷ others c)
      (λ t. fits (of (view t)) × others_fit t) (determined × others_determined)
  field_back rest = record {
    itself = λ t fit l p g keys i rs h. (
      law.itself (of (view t)) fit.0 l p g keys i rs h.0,
      rest.itself t fit.1 l p g keys (suc i) rs h.1,
    );
    alone = λ t u fit l p g keys i rs h read.
        ap₂ (λ (o : Option Doc) (os : List (Option Doc)). o ∷ os) (law.alone (of (view t)) (of (view u)) fit.0 l p g keys i rs h.0 read.0)
        (rest.alone t u fit.1 l p g keys (suc i) rs h.1 read.1);
    single = λ d c keys i rs t u h k.
        ap₂ (λ (o : Option Doc) (os : List (Option Doc)). o ∷ os) (law.single d.0 c keys i rs (of (view t)) (of (view u)) h.0 k.0)
        (rest.single d.1 c keys (suc i) rs t u h.1 k.1);
  }

-- the item of a struct is a map of its fields' pairs
module _ {S : Type 0} (keys : Keys) (fields : List (FieldOf S)) (fs : Fields) (p g : Bool) (x : S) where
  map_read : AreFieldsOf (IsKeyed keys) fields (keyed_pairs keys.labels fs p g) x → IsMapOf (IsKeyed keys) fields (raw_of (keyed_document keys.labels fs) p g) x
  map_read are = subst (λ (r : Raw). IsMapOf (IsKeyed keys) fields r x) (sym (keyed_item keys.labels fs p g)) are

  read_map : IsMapOf (IsKeyed keys) fields (raw_of (keyed_document keys.labels fs) p g) x → AreFieldsOf (IsKeyed keys) fields (keyed_pairs keys.labels fs p g) x
  read_map is = subst (λ (r : Raw). IsMapOf (IsKeyed keys) fields r x) (keyed_item keys.labels fs p g) is

pub struct_back : {T S : Type 0} {n : ℕ} {view : T → S} {documents : T → List (Option Doc)} {fields : Context → List (FieldOf S)} {fits : T → Type 0} {determined : Type 0}
    → AreFieldsReadBack view documents fields fits determined → ((t : T) → length (documents t) ≡ n)
    → (keys : Keys) → AreKeysOf n keys → are_told_apart keys ≡ true
    → IsReadBack (λ t. keyed_document keys.labels (fields_from keys.names 0 (documents t))) (λ c r t. IsMapOf (IsKeyed keys) (fields c) r (view t)) fits determined
struct_back {T = T} {n = n} {view = view} {documents = documents} {fields = fields} law counted keys as_many told =
    let within : (t : T) → 0 + length (documents t) ≤ n = λ t. let c = counted t in omega (arith, c) in
    record {
      itself = λ t fit l p g. map_read keys (fields (lending all_formats l)) (fields_from keys.names 0 (documents t)) p g (view t) (record {
        keys = are_fields keys as_many told p g 0 (documents t) (within t);
        read = law.itself t fit l p g keys 0 _ (all_hold keys as_many told p g 0 (documents t) (within t));
      });
      alone = λ t u fit l p g h. ap (λ (os : List (Option Doc)). keyed_document keys.labels (fields_from keys.names 0 os))
          (law.alone t u fit l p g keys 0 _ (all_hold keys as_many told p g 0 (documents t) (within t))
          (read_map keys (fields (lending all_formats l)) (fields_from keys.names 0 (documents t)) p g (view u) h).read);
      single = λ d c r t u h k.
          let of_map = in_map (AreFieldsOf (IsKeyed keys) (fields c)) (untagged r) (view t) (view u) h k in
          ap (λ (os : List (Option Doc)). keyed_document keys.labels (fields_from keys.names 0 os))
          (law.single d c keys 0 of_map.0 t u of_map.1.read of_map.2.read);
    }
