-- Enums are read back whose variants hold what is read back, where the names are told apart.
use Rattle.std.proofs.Common.{◌≡◌, ◌<◌, ◌≤◌, ◌+◌, ℕ, zero, suc, Bool, true, false, List, length, refl, ap, subst, arith}
use Rattle.cbor_model.specs.Document.{Doc, Docs, declared, identifier, map_of, array_of, structure, Fields, raw_of, raws_of, raw_fields_of, unit_variant, newtype_variant, tuple_variant, struct_variant}
use Rattle.cbor_model.specs.Formats.{all_formats}
use Rattle.cbor_model.specs.Raw as raw
use Rattle.cbor_model.specs.Raw.{Raw, Raws, raw_pair, no_raw_pairs, no_raws}
use Rattle.cbor_model.specs.Readable.{Context, PassesTags, untagged}
use Rattle.cbor_read.specs.Source.{Lends}
use Rattle.cbor_decode_as.specs.Takes.{lending}
use Rattle.cbor_decode_as.specs.Enums.{Content, alone, one, parts, IsVariant, IsEnum, IsNothing, IsPart, AreParts}
use Rattle.cbor_ser.specs.PartLists.{name_in}
use Rattle.cbor_described.specs.OneOfs.{either, no_variant}
use Rattle.cbor_described.specs.declared.variant_list.OneOf.{OneOf}
use Rattle.cbor_described.specs.declared.variant_list.OneOf.TheVariants.{This, Other}
use Rattle.cbor_described.specs.declared.variant_list.Never.{Never}
use Rattle.cbor_round_trip.specs.ReadBack.{IsReadBack, by_part, as_alike}
use Rattle.cbor_round_trip.specs.Names.{are_distinct, names_place, one_place}
use Rattle.cbor_round_trip.specs.Lists.{ArePartsReadBack}
use Rattle.cbor_round_trip.specs.OneReading.{in_array, one_variant}

-- The item is the variant in this place with this content, and no other.
pub record IsVariantAlone (names : List (List ℕ)) (i : ℕ) (r : Raw) (content : Content) : Type 0 where
  pub is : IsVariant all_formats names (untagged r) (i, content)
  pub only : (j : ℕ) (c : Content) → IsVariant all_formats names (untagged r) (j, c)
      → (j ≡ i) × (c ≡ content)

module _ (names : List (List ℕ)) (distinct : are_distinct names ≡ true) (i : ℕ) (below : i < length names) where
  alone_is : (p : Bool) → IsVariantAlone names i (identifier p i (name_in names i)) alone
  alone_is false = record {
    is = (refl, names_place names distinct false i below, refl);
    only = λ j c h. (one_place names distinct false i j below h.1, h.2);
  }
  alone_is true = record {
    is = (refl, names_place names distinct true i below, refl);
    only = λ j c h. (one_place names distinct true i j below h.1, h.2);
  }

  one_is : (p : Bool) (r : Raw)
      → IsVariantAlone names i (map_of declared (raw_pair (identifier p i (name_in names i)) r no_raw_pairs)) (one r)
  one_is p r = record {
    is = (refl, names_place names distinct p i below, refl);
    only = λ j c h. (one_place names distinct p i j below h.1, h.2);
  }

  parts_are : (p : Bool) (rs : Raws)
      → IsVariantAlone names i (array_of declared (raw.raw (identifier p i (name_in names i)) rs)) (parts rs)
  parts_are p rs = record {
    is = (refl, names_place names distinct p i below, refl);
    only = λ j c h. (one_place names distinct p i j below h.1, h.2);
  }

-- The item has one content alone, which means this value, and none of another document.
pub record MeansAlone {V : Type 0} (names : List (List ℕ)) (i : ℕ) (r : Raw) (means : Content → V → Type 0) (document : V → Doc) (x : V) : Type 0 where
  pub content : Content
  pub is : IsVariantAlone names i r content
  pub meaning : means content x
  pub others : (y : V) → means content y → document y ≡ document x

-- Each variant in a place is read back, where the names are told apart.
pub record IsVariantReadBack {V : Type 0} (document : ℕ → List ℕ → V → Doc) (means : Context → Content → V → Type 0) (fits : V → Type 0) (determined : Type 0) : Type 0 where
  pub holds : (names : List (List ℕ)) → are_distinct names ≡ true → (i : ℕ) → i < length names
      → (x : V) → fits x → (l : Lends) (p g : Bool)
      → MeansAlone names i (raw_of (document i (name_in names i) x) p g) (means (lending all_formats l)) (document i (name_in names i)) x
  pub single : determined → (c : Context) (content : Content) (x y : V) → means c content x → means c content y
      → (i : ℕ) (n : List ℕ) → document i n x ≡ document i n y

-- ---- the kinds of variants

-- both are read of one item
one_part : {A : Type 0} (reads : Raw → A → Type 0) (content : Content) (x y : A) → IsPart reads content x → IsPart reads content y
    → (r : Raw) × reads r x × reads r y
one_part reads alone x y h k = absurd h
one_part reads (one r) x y h k = (r, h, k)
one_part reads (parts no_raws) x y h k = absurd h
one_part reads (parts (raw.raw r rs)) x y h k = (r, h.0, k.0)

-- both are read of one list of items
all_parts : {A : Type 0} (items : Raws → A → Type 0) (content : Content) (x y : A) → AreParts items content x → AreParts items content y
    → (rs : Raws) × items rs x × items rs y
all_parts items alone x y h k = absurd h
all_parts items (one r) x y h k = in_array items (untagged r) x y h k
all_parts items (parts rs) x y h k = (rs, h, k)

pub unit_back : IsVariantReadBack (λ i n u. unit_variant i n) (λ c content u. IsNothing content u) (λ u. Unit {0}) (Unit {0})
unfolding raw_of
unit_back = record {
  holds = λ names distinct i below x fit l p g. record {
    content = alone;
    is = alone_is names distinct i below p;
    meaning = tt;
    others = λ y h. refl;
  };
  single = λ d c content u v h k i n. refl;
}

module _ {A V : Type 0} (part : V → A) where
  module _ {document : A → Doc} {reads : Context → Raw → A → Type 0} {fits : A → Type 0} {determined : Type 0} (law : IsReadBack document reads fits determined) where
    newtype_holds : (names : List (List ℕ)) → are_distinct names ≡ true → (i : ℕ) → i < length names
        → (x : V) → fits (part x) → (l : Lends) (p g : Bool)
        → MeansAlone names i (raw_of (newtype_variant i (name_in names i) (document (part x))) p g)
        (λ c y. IsPart (reads (lending all_formats l)) c (part y))
        (λ y. newtype_variant i (name_in names i) (document (part y))) x
    unfolding raw_of
    newtype_holds names distinct i below x fit l p false = record {
      content = one (raw_of (document (part x)) p false);
      is = one_is names distinct i below false (raw_of (document (part x)) p false);
      meaning = law.itself (part x) fit l p false;
      others = λ y h. ap (newtype_variant i (name_in names i)) (law.alone (part x) (part y) fit l p false h);
    }
    newtype_holds names distinct i below x fit l p true = record {
      content = parts (raw.raw (raw_of (document (part x)) p true) no_raws);
      is = parts_are names distinct i below p (raw.raw (raw_of (document (part x)) p true) no_raws);
      meaning = (law.itself (part x) fit l p true, tt);
      others = λ y h. ap (newtype_variant i (name_in names i)) (law.alone (part x) (part y) fit l p true h.0);
    }

    newtype_one : determined → (c : Context) (content : Content) (x y : V) → IsPart (reads c) content (part x) → IsPart (reads c) content (part y)
        → (i : ℕ) (n : List ℕ) → newtype_variant i n (document (part x)) ≡ newtype_variant i n (document (part y))
    newtype_one d c content x y h k i n =
        let item = one_part (reads c) content (part x) (part y) h k in
        ap (newtype_variant i n) (law.single d c item.0 (part x) (part y) item.1 item.2)

    pub newtype_back : IsVariantReadBack (λ i n x. newtype_variant i n (document (part x)))
        (λ c content x. IsPart (reads c) content (part x)) (λ x. fits (part x)) determined
    newtype_back = record { holds = newtype_holds; single = newtype_one }

  module _ {documents : A → Docs} {reads : Context → A → Raws → Type 0} {fits : A → Type 0} {determined : Type 0} (law : ArePartsReadBack documents reads fits determined) where
    tuple_holds : (names : List (List ℕ)) → are_distinct names ≡ true → (i : ℕ) → i < length names
        → (x : V) → fits (part x) → (l : Lends) (p g : Bool)
        → MeansAlone names i (raw_of (tuple_variant i (name_in names i) (documents (part x))) p g)
        (λ c y. AreParts (λ rs a. reads (lending all_formats l) a rs) c (part y))
        (λ y. tuple_variant i (name_in names i) (documents (part y))) x
    unfolding raw_of
    tuple_holds names distinct i below x fit l p false = record {
      content = one (array_of declared (raws_of (documents (part x)) p false));
      is = one_is names distinct i below false (array_of declared (raws_of (documents (part x)) p false));
      meaning = law.itself (part x) fit l p false;
      others = λ y h. ap (tuple_variant i (name_in names i)) (law.alone (part x) (part y) fit l p false h);
    }
    tuple_holds names distinct i below x fit l p true = record {
      content = parts (raws_of (documents (part x)) p true);
      is = parts_are names distinct i below p (raws_of (documents (part x)) p true);
      meaning = law.itself (part x) fit l p true;
      others = λ y h. ap (tuple_variant i (name_in names i)) (law.alone (part x) (part y) fit l p true h);
    }

    tuple_one : determined → (c : Context) (content : Content) (x y : V)
        → AreParts (λ rs a. reads c a rs) content (part x) → AreParts (λ rs a. reads c a rs) content (part y)
        → (i : ℕ) (n : List ℕ) → tuple_variant i n (documents (part x)) ≡ tuple_variant i n (documents (part y))
    tuple_one d c content x y h k i n =
        let items = all_parts (λ rs a. reads c a rs) content (part x) (part y) h k in
        ap (tuple_variant i n) (law.single d c items.0 (part x) (part y) items.1 items.2)

    pub tuple_back : IsVariantReadBack (λ i n x. tuple_variant i n (documents (part x)))
        (λ c content x. AreParts (λ rs a. reads c a rs) content (part x)) (λ x. fits (part x)) determined
    tuple_back = record { holds = tuple_holds; single = tuple_one }

-- the fields of a struct
abbrev fields_in : Doc → Fields → Fields
fields_in (structure fs) gs = fs
fields_in d gs = gs

module _ {A V : Type 0} (part : V → A) (fields_of : List (List ℕ) → A → Fields) {reads : List (List ℕ) → Context → Raw → A → Type 0} {fits : A → Type 0} {determined : Type 0} (field_names : List (List ℕ)) (n : ℕ)
    (law : (names : List (List ℕ)) → length names ≡ n → are_distinct names ≡ true → IsReadBack (λ x. structure (fields_of names x)) (reads names) fits determined) where
  abbrev fields : V → Fields
  fields x = fields_of field_names (part x)

  abbrev Fits : V → Type 0
  Fits x = (length field_names ≡ n) × (are_distinct field_names ≡ true) × fits (part x)

  abbrev Determined : Type 0
  Determined = (length field_names ≡ n) × (are_distinct field_names ≡ true) × determined

  struct_one : Determined → (c : Context) (content : Content) (x y : V) → IsPart (reads field_names c) content (part x) → IsPart (reads field_names c) content (part y)
      → (i : ℕ) (n : List ℕ) → struct_variant i n (fields x) ≡ struct_variant i n (fields y)
  struct_one d c content x y h k i n =
      let item = one_part (reads field_names c) content (part x) (part y) h k in
      ap (λ (e : Doc). struct_variant i n (fields_in e (fields x))) ((law field_names d.0 d.1).single d.2 c item.0 (part x) (part y) item.1 item.2)

  struct_holds : (names : List (List ℕ)) → are_distinct names ≡ true → (i : ℕ) → i < length names
      → (x : V) → Fits x → (l : Lends) (p g : Bool)
      → MeansAlone names i (raw_of (struct_variant i (name_in names i) (fields x)) p g)
      (λ c y. IsPart (reads field_names (lending all_formats l)) c (part y))
      (λ y. struct_variant i (name_in names i) (fields y)) x
  unfolding raw_of
  struct_holds names distinct i below x fit l p false =
      let reported = law field_names fit.0 fit.1 in
      record {
        content = one (map_of declared (raw_fields_of (fields x) p false));
        is = one_is names distinct i below p (map_of declared (raw_fields_of (fields x) p false));
        meaning = reported.itself (part x) fit.2 l p false;
        others = λ y h. ap (λ (d : Doc). struct_variant i (name_in names i) (fields_in d (fields y))) (reported.alone (part x) (part y) fit.2 l p false h);
      }
  struct_holds names distinct i below x fit l p true =
      let reported = law field_names fit.0 fit.1 in
      record {
        content = parts (raw.raw (map_of declared (raw_fields_of (fields x) p true)) no_raws);
        is = parts_are names distinct i below p (raw.raw (map_of declared (raw_fields_of (fields x) p true)) no_raws);
        meaning = (reported.itself (part x) fit.2 l p true, tt);
        others = λ y h. ap (λ (d : Doc). struct_variant i (name_in names i) (fields_in d (fields y))) (reported.alone (part x) (part y) fit.2 l p true h.0);
      }

  pub struct_variant_back : IsVariantReadBack (λ i n x. struct_variant i n (fields x)) (λ c content x. IsPart (reads field_names c) content (part x)) Fits Determined
  struct_variant_back = record { holds = struct_holds; single = struct_one }

-- ---- enums

-- the document of the first variant, or of one of the others, from the place k on
abbrev pub either_document : {V W : Type 0} → (ℕ → List ℕ → V → Doc) → (List (List ℕ) → ℕ → W → Doc)
    → List (List ℕ) → ℕ → OneOf V W → Doc
either_document this those names k (This v) = this k (name_in names k) v
either_document this those names k (Other w) = those names (suc k) w

abbrev pub never_document : List (List ℕ) → ℕ → Never → Doc
never_document names k x = elim x [ ]

abbrev pub either_fits : {V W : Type 0} → (V → Type 0) → (W → Type 0) → OneOf V W → Type 0
either_fits this those (This v) = this v
either_fits this those (Other w) = those w

abbrev pub never_fits : Never → Type 0
never_fits x = ⊥

-- The item has one place and content alone, which mean this value, and none of another document.
pub record MeansOne {W : Type 0} (names : List (List ℕ)) (k : ℕ) (r : Raw) (means : ℕ → Content → W → Type 0) (document : W → Doc) (x : W) : Type 0 where
  pub index : ℕ
  pub place : ℕ
  pub behind : index ≡ k + place
  pub content : Content
  pub is : IsVariantAlone names index r content
  pub meaning : means place content x
  pub others : (y : W) → means place content y → document y ≡ document x

-- Each of so many variants from a place on is read back.
pub record AreVariantsReadBack {W : Type 0} (n : ℕ) (document : List (List ℕ) → ℕ → W → Doc) (means : Context → ℕ → Content → W → Type 0) (fits : W → Type 0) (determined : Type 0) : Type 0 where
  pub holds : (names : List (List ℕ)) → are_distinct names ≡ true → (k : ℕ) → k + n ≤ length names
      → (x : W) → fits x → (l : Lends) (p g : Bool)
      → MeansOne names k (raw_of (document names k x) p g) (means (lending all_formats l)) (document names k) x
  pub single : determined → (c : Context) (place : ℕ) (content : Content) (x y : W) → means c place content x → means c place content y
      → (names : List (List ℕ)) (k : ℕ) → document names k x ≡ document names k y

pub no_variants_back : AreVariantsReadBack 0 never_document (λ c. no_variant) never_fits (Unit {0})
no_variants_back = record {
  holds = λ names distinct k within x fit l p g. absurd fit;
  single = λ d c place content x y h k names i. absurd h;
}

module _ {V W : Type 0} {this_document : ℕ → List ℕ → V → Doc} {this_means : Context → Content → V → Type 0} {this_fits : V → Type 0} {this_determined : Type 0} {n : ℕ}
    {those_document : List (List ℕ) → ℕ → W → Doc} {those_mean : Context → ℕ → Content → W → Type 0} {those_fit : W → Type 0} {those_determined : Type 0}
    (this : IsVariantReadBack this_document this_means this_fits this_determined) (those : AreVariantsReadBack n those_document those_mean those_fit those_determined) where
  abbrev Means : Lends → ℕ → Content → OneOf V W → Type 0
  Means l = either (this_means (lending all_formats l)) (those_mean (lending all_formats l))

  abbrev document : List (List ℕ) → ℕ → OneOf V W → Doc
  document = either_document this_document those_document

  this_others : (names : List (List ℕ)) (k : ℕ) (l : Lends) (c : Content) (v : V)
      → ((y : V) → this_means (lending all_formats l) c y → this_document k (name_in names k) y ≡ this_document k (name_in names k) v)
      → (u : OneOf V W) → Means l 0 c u → document names k u ≡ document names k (This v)
  this_others names k l c v others (This y) h = others y h
  this_others names k l c v others (Other w) h = absurd h

  those_others : (names : List (List ℕ)) (k i : ℕ) (l : Lends) (c : Content) (w : W)
      → ((y : W) → those_mean (lending all_formats l) i c y → those_document names (suc k) y ≡ those_document names (suc k) w)
      → (u : OneOf V W) → Means l (suc i) c u → document names k u ≡ document names k (Other w)
  those_others names k i l c w others (This y) h = absurd h
  those_others names k i l c w others (Other y) h = others y h

  either_holds : (names : List (List ℕ)) → are_distinct names ≡ true → (k : ℕ) → k + suc n ≤ length names
      → (x : OneOf V W) → either_fits this_fits those_fit x → (l : Lends) (p g : Bool)
      → MeansOne names k (raw_of (document names k x) p g) (Means l) (document names k) x
  either_holds names distinct k within (This v) fit l p g =
      let h = this.holds names distinct k (omega (arith, within)) v fit l p g in
      record {
        index = k;
        place = 0;
        behind = omega arith;
        content = h.content;
        is = h.is;
        meaning = h.meaning;
        others = this_others names k l h.content v h.others;
      }
  either_holds names distinct k within (Other w) fit l p g =
      let h = those.holds names distinct (suc k) (omega (arith, within)) w fit l p g in
      let behind = h.behind in
      record {
        index = h.index;
        place = suc h.place;
        behind = omega (arith, behind);
        content = h.content;
        is = h.is;
        meaning = h.meaning;
        others = those_others names k h.place l h.content w h.others;
      }

  either_one : this_determined × those_determined → (c : Context) (place : ℕ) (content : Content) (x y : OneOf V W)
      → either (this_means c) (those_mean c) place content x → either (this_means c) (those_mean c) place content y
      → (names : List (List ℕ)) (k : ℕ) → document names k x ≡ document names k y
  either_one d c zero content (This v) (This w) h e names k = this.single d.0 c content v w h e k (name_in names k)
  either_one d c zero content (This v) (Other w) h e names k = absurd e
  either_one d c zero content (Other v) w h e names k = absurd h
  either_one d c (suc i) content (This v) w h e names k = absurd h
  either_one d c (suc i) content (Other v) (This w) h e names k = absurd e
  either_one d c (suc i) content (Other v) (Other w) h e names k = those.single d.1 c i content v w h e names (suc k)

  pub variant_back : AreVariantsReadBack (suc n) document (λ c. either (this_means c) (those_mean c)) (either_fits this_fits those_fit) (this_determined × those_determined)
  variant_back = record { holds = either_holds; single = either_one }

pub enum_back : {E W : Type 0} {n : ℕ} {list : E → W} {enum_document : List (List ℕ) → E → Doc} {document : List (List ℕ) → ℕ → W → Doc} {means : Context → ℕ → Content → W → Type 0} {fits : W → Type 0} {determined : Type 0}
    → AreVariantsReadBack n document means fits determined
    → ((names : List (List ℕ)) (x : E) → enum_document names x ≡ document names 0 (list x))
    → (names : List (List ℕ)) → length names ≡ n → are_distinct names ≡ true
    → IsReadBack (enum_document names) (λ c r x. PassesTags (IsEnum c.formats names (means c)) r (list x)) (λ x. fits (list x)) determined
enum_back {list = list} {document = document} {means = means} {fits = fits} {determined = determined} law same names as_many distinct =
    as_alike (same names) (λ c r x. ((λ h. h), (λ h. h))) (by_part list of_list)
  where
    of_list : IsReadBack (document names 0) (λ c r x. PassesTags (IsEnum c.formats names (means c)) r x) fits determined
    of_list = record {
      itself = λ x fit l p g.
          let h = law.holds names distinct 0 (omega (arith, as_many)) x fit l p g in
          let behind = h.behind in
          let at : h.index ≡ h.place = omega (arith, behind) in
          record {
            index = h.place;
            content = h.content;
            variant = subst (λ (i : ℕ). IsVariant all_formats names (untagged (raw_of (document names 0 x) p g)) (i, h.content)) at h.is.is;
            meaning = h.meaning;
          };
      alone = λ x y fit l p g reported.
          let h = law.holds names distinct 0 (omega (arith, as_many)) x fit l p g in
          let behind = h.behind in
          let only = h.is.only reported.index reported.content reported.variant in
          let place = only.0 in
          let at : reported.index ≡ h.place = omega (arith, behind, place) in
          h.others y (subst (λ (c : Content). means (lending all_formats l) h.place c y) only.1
          (subst (λ (i : ℕ). means (lending all_formats l) i reported.content y) at reported.meaning));
      single = λ d c r x y h k.
          let same = one_variant c.formats names (untagged r) (h.index, h.content) (k.index, k.content) h.variant k.variant in
          law.single d c k.index k.content x y (subst (λ (i : ℕ). means c i k.content x) same.0
          (subst (λ (u : Content). means c h.index u x) same.1 h.meaning)) k.meaning names 0;
    }
