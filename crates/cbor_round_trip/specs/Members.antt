-- Sets are read back whose items are, in their order.
use Rattle.std.proofs.Common.{◌≡◌, List, [], ◌∷◌, ◌++◌, Ordering, Less, Equal, Greater, refl, ap, sym, subst, ◌∙◌, append_assoc}
use Rattle.std.specs.BTreeSet.{insert_key}
use Rattle.std.specs.Cmp.{IsTotalOrder}
use Rattle.std.specs.List.{AllByRecursion}
use Rattle.std.specs.List.Sorted.{IsStrictlySortedBy}
use Rattle.std.specs.Ordering.{ordering_reverse, match_ordering}
use Rattle.cbor_model.specs.Document.{Doc, Docs, no_docs, doc, docs, sequence, declared, raw_of}
use Rattle.cbor_model.specs.Raw.{Raw}
use Rattle.cbor_model.specs.Readable.{Context, PassesTags, untagged}
use Rattle.cbor_decode_as.specs.Arrays.{AsArray}
use Rattle.cbor_de.specs.Sets.{AreKeys, put_items}
use Rattle.cbor_round_trip.specs.Keyed.{IsToldByDocuments}
use Rattle.cbor_round_trip.specs.Lists.{items_alone, items_itself, items_one}
use Rattle.cbor_round_trip.specs.OneReading.{in_array}
use Rattle.cbor_round_trip.specs.ReadBack.{IsReadBack}

-- ---- ascending items are put one after the other

module _ {A : Type 0} (cmp : A → A → Ordering) (total : IsTotalOrder cmp) where
  -- the item is above these
  abbrev IsAbove : A → List A → Type 0
  IsAbove x = AllByRecursion (λ y. cmp y x ≡ Less)

  insert_above : (ys : List A) (x : A) → IsAbove x ys → insert_key cmp ys x ≡ ys ++ x ∷ []
  insert_above [] x above = refl
  insert_above (y ∷ ys) x above =
      let more : cmp x y ≡ Greater = total.antisymm x y ∙ ap ordering_reverse above.0 in
      ap (λ (o : Ordering). match_ordering o (x ∷ y ∷ ys) (y ∷ ys) (y ∷ insert_key cmp ys x)) more
      ∙ ap (λ (t : List A). y ∷ t) (insert_above ys x above.1)

  -- each of the others is above these
  abbrev AreBelow : List A → List A → Type 0
  AreBelow ys = AllByRecursion (λ x. IsAbove x ys)

  above_push : (ys : List A) (y x : A) → IsAbove x ys → cmp y x ≡ Less → IsAbove x (ys ++ y ∷ [])
  above_push [] y x above less = (less, tt)
  above_push (z ∷ ys) y x above less = (above.0, above_push ys y x above.1 less)

  below_push : (ys : List A) (y : A) (xs : List A) → AreBelow ys xs
      → AllByRecursion (λ x. cmp y x ≡ Less) xs → AreBelow (ys ++ y ∷ []) xs
  below_push ys y [] below all = tt
  below_push ys y (x ∷ xs) below all = (above_push ys y x below.0 all.0, below_push ys y xs below.1 all.1)

  append_nil : (ys : List A) → ys ≡ ys ++ []
  append_nil [] = refl
  append_nil (y ∷ ys) = ap (λ (t : List A). y ∷ t) (append_nil ys)

  put_ascending : (ys xs : List A) → AreBelow ys xs → IsStrictlySortedBy cmp xs
      → put_items cmp ys xs ≡ ys ++ xs
  unfolding IsStrictlySortedBy
  put_ascending ys [] below up = append_nil ys
  put_ascending ys (x ∷ xs) below up =
      ap (λ (t : List A). put_items cmp t xs) (insert_above ys x below.0)
      ∙ put_ascending (ys ++ x ∷ []) xs (below_push ys x xs below.1 up.0) up.1
      ∙ append_assoc ys (x ∷ []) xs

  below_none : (xs : List A) → AreBelow [] xs
  below_none [] = tt
  below_none (x ∷ xs) = (tt, below_none xs)

  put_sorted : (xs : List A) → IsStrictlySortedBy cmp xs → xs ≡ put_items cmp [] xs
  put_sorted xs up = sym (put_ascending [] xs (below_none xs) up)

-- the items ascend, and what is asked of each holds
abbrev pub AreFit : {A : Type 0} → (A → A → Ordering) → (A → Type 0) → List A → Type 0
AreFit cmp fits xs = IsStrictlySortedBy cmp xs × AllByRecursion fits xs

-- ---- items of the same documents

module _ {A : Type 0} (cmp : A → A → Ordering) (document : A → Doc) (reported : IsToldByDocuments document cmp) where
  -- one by one
  abbrev Alike : List A → List A → Type 0
  Alike [] [] = Unit {0}
  Alike [] (y ∷ ys) = ⊥
  Alike (x ∷ xs) [] = ⊥
  Alike (x ∷ xs) (y ∷ ys) = (document x ≡ document y) × Alike xs ys

  alike_documents : (xs ys : List A) → Alike xs ys → docs document xs ≡ docs document ys
  alike_documents [] [] h = refl
  alike_documents [] (y ∷ ys) h = absurd h
  alike_documents (x ∷ xs) [] h = absurd h
  alike_documents (x ∷ xs) (y ∷ ys) h =
      ap (λ (d : Doc). doc d (docs document xs)) h.0 ∙ ap (doc (document y)) (alike_documents xs ys h.1)

  abbrev first_of : Doc → Docs → Doc
  first_of d no_docs = d
  first_of d (doc e es) = e

  abbrev rest_of : Docs → Docs
  rest_of no_docs = no_docs
  rest_of (doc e es) = es

  documents_alike : (xs ys : List A) → docs document xs ≡ docs document ys → Alike xs ys
  documents_alike [] [] same = tt
  documents_alike [] (y ∷ ys) same = absurd cc
  documents_alike (x ∷ xs) [] same = absurd cc
  documents_alike (x ∷ xs) (y ∷ ys) same =
      (ap (first_of (document x)) same, documents_alike xs ys (ap rest_of same))

  -- they ascend alike
  all_above : (x y : A) (xs ys : List A) → document x ≡ document y → Alike xs ys
      → AllByRecursion (λ z. cmp x z ≡ Less) xs → AllByRecursion (λ z. cmp y z ≡ Less) ys
  all_above x y [] [] one same up = tt
  all_above x y [] (w ∷ ys) one same up = absurd same
  all_above x y (z ∷ xs) [] one same up = absurd same
  all_above x y (z ∷ xs) (w ∷ ys) one same up =
      (sym (reported x z y w one same.0) ∙ up.0, all_above x y xs ys one same.1 up.1)

  sorted_alike : (xs ys : List A) → Alike xs ys → IsStrictlySortedBy cmp xs → IsStrictlySortedBy cmp ys
  unfolding IsStrictlySortedBy
  sorted_alike [] [] same up = tt
  sorted_alike [] (y ∷ ys) same up = absurd same
  sorted_alike (x ∷ xs) [] same up = absurd same
  sorted_alike (x ∷ xs) (y ∷ ys) same up =
      (all_above x y xs ys same.0 same.1 up.0, sorted_alike xs ys same.1 up.1)

  by_order : (o : Ordering) (less equal greater less' equal' greater' : List A) → Alike less less' → Alike equal equal' → Alike greater greater'
      → Alike (match_ordering o less equal greater) (match_ordering o less' equal' greater')
  by_order Less less equal greater less' equal' greater' a b c = a
  by_order Equal less equal greater less' equal' greater' a b c = b
  by_order Greater less equal greater less' equal' greater' a b c = c

  insert_alike : (xs ys : List A) (x y : A) → Alike xs ys → document x ≡ document y
      → Alike (insert_key cmp xs x) (insert_key cmp ys y)
  insert_alike [] [] x y same one = (one, tt)
  insert_alike [] (w ∷ ys) x y same one = absurd same
  insert_alike (z ∷ xs) [] x y same one = absurd same
  insert_alike (z ∷ xs) (w ∷ ys) x y same one =
      subst (λ (o : Ordering). Alike (insert_key cmp (z ∷ xs) x) (match_ordering o (y ∷ w ∷ ys) (w ∷ ys) (w ∷ insert_key cmp ys y))) (reported x z y w one same.0)
      (by_order (cmp x z) (x ∷ z ∷ xs) (z ∷ xs) (z ∷ insert_key cmp xs x) (y ∷ w ∷ ys) (w ∷ ys) (w ∷ insert_key cmp ys y)
      (one, same) same (same.0, insert_alike xs ys x y same.1 one))

  put_alike : (ks ls xs ys : List A) → Alike ks ls → Alike xs ys → Alike (put_items cmp ks xs) (put_items cmp ls ys)
  put_alike ks ls [] [] same all = same
  put_alike ks ls [] (y ∷ ys) same all = absurd all
  put_alike ks ls (x ∷ xs) [] same all = absurd all
  put_alike ks ls (x ∷ xs) (y ∷ ys) same all =
      put_alike (insert_key cmp ks x) (insert_key cmp ls y) xs ys (insert_alike ks ls x y same all.0) all.1

-- ---- the law

pub set_back : {A : Type 0} {cmp : A → A → Ordering} {document : A → Doc} {reads : Context → Raw → A → Type 0} {fits : A → Type 0} {determined : Type 0}
    (total : IsTotalOrder cmp) (reported : IsToldByDocuments document cmp) (law : IsReadBack document reads fits determined)
    {S : Type 0} {keys : S → List A}
    → IsReadBack (λ s. sequence declared (docs document (keys s)))
    (λ c. PassesTags (AsArray (λ rs s. AreKeys cmp (reads c) rs (keys s))))
    (λ s. AreFit cmp fits (keys s)) determined
unfolding raw_of
set_back {cmp = cmp} {document = document} {reads = reads} total reported law {keys = keys} = record {
  itself = λ s fit l p g. record {
    items = keys s;
    read = items_itself law (keys s) fit.1 l p g;
    put = put_sorted cmp total (keys s) fit.0;
  };
  alone = λ s t fit l p g h.
      let same = items_alone law (keys s) h.items fit.1 l p g h.read in
      let up = sorted_alike cmp document reported (keys s) h.items (documents_alike cmp document reported (keys s) h.items (sym same)) fit.0 in
      ap (λ (xs : List _). sequence declared (docs document xs)) (h.put ∙ sym (put_sorted cmp total h.items up))
      ∙ ap (sequence declared) same;
  single = λ d c r s t h k.
      let of_array = in_array (λ rs u. AreKeys cmp (reads c) rs (keys u)) (untagged r) s t h k in
      let one = of_array.1 in
      let two = of_array.2 in
      let same = documents_alike cmp document reported one.items two.items (items_one law d c of_array.0 one.items two.items one.read two.read) in
      ap (λ (xs : List _). sequence declared (docs document xs)) one.put
      ∙ ap (sequence declared) (alike_documents cmp document reported (put_items cmp [] one.items) (put_items cmp [] two.items) (put_alike cmp document reported [] [] one.items two.items tt same))
      ∙ sym (ap (λ (xs : List _). sequence declared (docs document xs)) two.put);
}
