-- Vectors, arrays and tuples of what is read back are read back.
use Rattle.std.proofs.Common.{◌≡◌, ℕ, List, [], ◌∷◌, length, Bool, refl, ap, ap₂}
use Rattle.std.specs.List.{AllByRecursion}
use Rattle.cbor_model.specs.Document.{Doc, Docs, no_docs, doc, docs, sequence, declared, raw_of, raws_of}
use Rattle.cbor_model.specs.Formats.{all_formats}
use Rattle.cbor_model.specs.Raw as raw
use Rattle.cbor_model.specs.Raw.{Raw, Raws, no_raws}
use Rattle.cbor_model.specs.Readable.{Context, PassesTags, untagged}
use Rattle.cbor_read.specs.Source.{Lends}
use Rattle.cbor_decode_as.specs.Takes.{lending}
use Rattle.cbor_decode_as.specs.Arrays.{AsArray, AreRead, AreExactly, FirstThen, AreNone}
use Rattle.cbor_round_trip.specs.OneReading.{in_array}
use Rattle.cbor_round_trip.specs.ReadBack.{IsReadBack}

module _ {A : Type 0} {document : A → Doc} {reads : Context → Raw → A → Type 0} {fits : A → Type 0} {determined : Type 0} (law : IsReadBack document reads fits determined) where
  pub items_itself : (xs : List A) → AllByRecursion fits xs → (l : Lends) (p g : Bool)
      → AreRead (reads (lending all_formats l)) (raws_of (docs document xs) p g) xs
  unfolding raws_of
  items_itself [] fit l p g = tt
  items_itself (x ∷ xs) fit l p g = (law.itself x fit.0 l p g, items_itself xs fit.1 l p g)

  pub items_alone : (xs ys : List A) → AllByRecursion fits xs → (l : Lends) (p g : Bool)
      → AreRead (reads (lending all_formats l)) (raws_of (docs document xs) p g) ys
      → docs document ys ≡ docs document xs
  unfolding raws_of
  items_alone [] [] fit l p g h = refl
  items_alone [] (y ∷ ys) fit l p g h = absurd h
  items_alone (x ∷ xs) [] fit l p g h = absurd h
  items_alone (x ∷ xs) (y ∷ ys) fit l p g h =
      ap₂ doc (law.alone x y fit.0 l p g h.0) (items_alone xs ys fit.1 l p g h.1)

  pub items_one : determined → (c : Context) (rs : Raws) (xs ys : List A) → AreRead (reads c) rs xs → AreRead (reads c) rs ys
      → docs document xs ≡ docs document ys
  items_one d c no_raws [] [] h k = refl
  items_one d c no_raws [] (y ∷ ys) h k = absurd k
  items_one d c no_raws (x ∷ xs) ys h k = absurd h
  items_one d c (raw.raw r rs) [] ys h k = absurd h
  items_one d c (raw.raw r rs) (x ∷ xs) [] h k = absurd k
  items_one d c (raw.raw r rs) (x ∷ xs) (y ∷ ys) h k = ap₂ doc (law.single d c r x y h.0 k.0) (items_one d c rs xs ys h.1 k.1)

  -- of a first item and others
  first_one : determined → (c : Context) (x y : A) (ds es : Docs) (some others : Raws → Type 0)
      → ((rs : Raws) → some rs → others rs → ds ≡ es) → (rs : Raws)
      → FirstThen (reads c) x some rs → FirstThen (reads c) y others rs → doc (document x) ds ≡ doc (document y) es
  first_one d c x y ds es some others rest no_raws h k = absurd h
  first_one d c x y ds es some others rest (raw.raw r rs) h k = ap₂ doc (law.single d c r x y h.0 k.0) (rest rs h.1 k.1)

  pub list_back : {B : Type 0} {items : B → List A}
      → IsReadBack (λ v. sequence declared (docs document (items v)))
      (λ c. PassesTags (AsArray (λ rs v. AreRead (reads c) rs (items v))))
      (λ v. AllByRecursion fits (items v)) determined
  unfolding raw_of
  list_back {items = items} = record {
    itself = λ v fit l p g. items_itself (items v) fit l p g;
    alone = λ v w fit l p g h. ap (sequence declared) (items_alone (items v) (items w) fit l p g h);
    single = λ d c r v w h k.
        let of_array = in_array (λ rs u. AreRead (reads c) rs (items u)) (untagged r) v w h k in
        ap (sequence declared) (items_one d c of_array.0 (items v) (items w) of_array.1 of_array.2);
  }

  pub array_back : {n : ℕ}
      → IsReadBack (λ xs. sequence declared (docs document xs))
      (λ c. PassesTags (AsArray (AreExactly (reads c) n)))
      (λ xs. (length xs ≡ n) × AllByRecursion fits xs) determined
  unfolding raw_of
  array_back {n = n} = record {
    itself = λ xs fit l p g. (items_itself xs fit.1 l p g, fit.0);
    alone = λ xs ys fit l p g h. ap (sequence declared) (items_alone xs ys fit.1 l p g h.0);
    single = λ d c r xs ys h k.
        let of_array = in_array (AreExactly (reads c) n) (untagged r) xs ys h k in
        ap (sequence declared) (items_one d c of_array.0 xs ys of_array.1.0 of_array.2.0);
  }

-- ---- tuples

-- The items of the parts of a tuple, or of the parts after the first, are read as those.
pub record ArePartsReadBack {T : Type 0} (documents : T → Docs) (reads : Context → T → Raws → Type 0) (fits : T → Type 0) (determined : Type 0) : Type 0 where
  pub itself : (t : T) → fits t → (l : Lends) (p g : Bool)
      → reads (lending all_formats l) t (raws_of (documents t) p g)
  pub alone : (t u : T) → fits t → (l : Lends) (p g : Bool)
      → reads (lending all_formats l) u (raws_of (documents t) p g) → documents u ≡ documents t
  pub single : determined → (c : Context) (rs : Raws) (t u : T) → reads c t rs → reads c u rs → documents t ≡ documents u

module _ {A T : Type 0} {part : T → A} {document : A → Doc} {reads : Context → Raw → A → Type 0} {fits : A → Type 0} {determined : Type 0} (law : IsReadBack document reads fits determined) where
  pub last_back : ArePartsReadBack (λ t. doc (document (part t)) no_docs)
      (λ c t. FirstThen (reads c) (part t) AreNone) (λ t. fits (part t)) determined
  unfolding raws_of
  last_back = record {
    itself = λ t fit l p g. (law.itself (part t) fit l p g, tt);
    alone = λ t u fit l p g h.
        ap (λ (d : Doc). doc d no_docs) (law.alone (part t) (part u) fit l p g h.0);
    single = λ d c rs t u h k. first_one law d c (part t) (part u) no_docs no_docs AreNone AreNone (λ more g l. refl) rs h k;
  }

  pub part_back : {documents : T → Docs} {others : Context → T → Raws → Type 0} {others_fit : T → Type 0} {others_determined : Type 0}
      → ArePartsReadBack documents others others_fit others_determined
      → ArePartsReadBack (λ t. doc (document (part t)) (documents t))
      (λ c t. FirstThen (reads c) (part t) (others c t))
      (λ t. fits (part t) × others_fit t) (determined × others_determined)
  unfolding raws_of
  part_back {documents = documents} {others = others} rest = record {
    itself = λ t fit l p g. (law.itself (part t) fit.0 l p g, rest.itself t fit.1 l p g);
    alone = λ t u fit l p g h.
        ap₂ doc (law.alone (part t) (part u) fit.0 l p g h.0) (rest.alone t u fit.1 l p g h.1);
    single = λ d c rs t u h k.
        first_one law d.0 c (part t) (part u) (documents t) (documents u) (others c t) (others c u)
        (λ more g l. rest.single d.1 c more t u g l) rs h k;
  }

pub tuple_back : {T : Type 0} {documents : T → Docs} {reads : Context → T → Raws → Type 0} {fits : T → Type 0} {determined : Type 0}
    → ArePartsReadBack documents reads fits determined
    → IsReadBack (λ t. sequence declared (documents t)) (λ c. PassesTags (AsArray (λ rs t. reads c t rs))) fits determined
unfolding raw_of
tuple_back {reads = reads} law = record {
  itself = law.itself;
  alone = λ t u fit l p g h. ap (sequence declared) (law.alone t u fit l p g h);
  single = λ d c r t u h k.
      let of_array = in_array (λ rs v. reads c v rs) (untagged r) t u h k in
      ap (sequence declared) (law.single d c of_array.0 t u of_array.1 of_array.2);
}
