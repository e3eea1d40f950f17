-- Maps are read back whose keys and values are, in the order of the keys.
use Rattle.std.proofs.Common.{ℤ, pos, negsuc, ◌≡◌, ℕ, List, [], ◌∷◌, ◌++◌, Bool, Ordering, Less, Equal, Greater, refl, ap, ap₂, sym, subst, ◌∙◌, append_assoc}
use Rattle.std.specs.Prelude.{String}
use Rattle.std.specs.String.{string_bytes}
use Rattle.std.specs.Ordering.{ordering_reverse, match_ordering, nat_cmp, int_cmp}
use Rattle.std.specs.Cmp.{IsTotalOrder, on_total}
use Rattle.std.specs.Cmp.Lexicographic.{slice_cmp}
use Rattle.std.proofs.lemmas.Cmp.{nat_list_cmp_total}
use Rattle.std.specs.BTreeMap.{insert_entry}
use Rattle.std.specs.List.{AllByRecursion}
use Rattle.std.specs.List.Sorted.{IsStrictlySortedBy}
use Rattle.std.specs.Map.{keys_of}
use Rattle.cbor_model.specs.Document.{Doc, text, integer, doc_pair, doc_pairs, mapping, declared, raw_of, raw_pairs_of}
use Rattle.cbor_model.specs.Formats.{all_formats}
use Rattle.cbor_model.specs.Raw.{Raw, RawPairs, no_raw_pairs, raw_pair}
use Rattle.cbor_model.specs.Readable.{Context, PassesTags, untagged}
use Rattle.cbor_read.specs.Source.{Lends}
use Rattle.cbor_decode_as.specs.Takes.{lending}
use Rattle.cbor_decode_as.specs.Maps.{AsMap, ArePairsRead, AreEntries, put_all}
use Rattle.cbor_round_trip.specs.OneReading.{in_map}
use Rattle.cbor_round_trip.specs.ReadBack.{IsReadBack}

-- the order of two values is shown by their documents
abbrev pub IsToldByDocuments : {K : Type 0} → (K → Doc) → (K → K → Ordering) → Type 0
IsToldByDocuments {K} document cmp = (a b c d : K) → document a ≡ document c → document b ≡ document d → cmp a b ≡ cmp c d

-- ---- ascending entries are put one after the other

module _ {K V : Type 0} (cmp : K → K → Ordering) (total : IsTotalOrder cmp) where
  -- the key is above those of the entries
  abbrev IsAbove : K → List (K × V) → Type 0
  IsAbove k = AllByRecursion (λ e. cmp e.0 k ≡ Less)

  insert_above : (es : List (K × V)) (k : K) (v : V) → IsAbove k es
      → insert_entry cmp es k v ≡ es ++ (k, v) ∷ []
  insert_above [] k v above = refl
  insert_above (e ∷ es) k v above =
      let more : cmp k e.0 ≡ Greater = total.antisymm k e.0 ∙ ap ordering_reverse above.0 in
      ap (λ (o : Ordering). match_ordering o ((k, v) ∷ e ∷ es) ((e.0, v) ∷ es) (e ∷ insert_entry cmp es k v)) more
      ∙ ap (λ (t : List (K × V)). e ∷ t) (insert_above es k v above.1)

  -- each of the others is above the entries
  abbrev AreBelow : List (K × V) → List (K × V) → Type 0
  AreBelow es = AllByRecursion (λ f. IsAbove f.0 es)

  above_push : (es : List (K × V)) (e f : K × V) → IsAbove f.0 es → cmp e.0 f.0 ≡ Less
      → IsAbove f.0 (es ++ e ∷ [])
  above_push [] e f above less = (less, tt)
  above_push (d ∷ es) e f above less = (above.0, above_push es e f above.1 less)

  below_push : (es : List (K × V)) (e : K × V) (fs : List (K × V)) → AreBelow es fs
      → AllByRecursion (λ y. cmp e.0 y ≡ Less) (keys_of fs) → AreBelow (es ++ e ∷ []) fs
  below_push es e [] below all = tt
  below_push es e (f ∷ fs) below all =
      (above_push es e f below.0 all.0, below_push es e fs below.1 all.1)

  append_nil : (es : List (K × V)) → es ≡ es ++ []
  append_nil [] = refl
  append_nil (e ∷ es) = ap (λ (t : List (K × V)). e ∷ t) (append_nil es)

  put_ascending : (es fs : List (K × V)) → AreBelow es fs → IsStrictlySortedBy cmp (keys_of fs)
      → put_all cmp es fs ≡ es ++ fs
  unfolding IsStrictlySortedBy
  put_ascending es [] below up = append_nil es
  put_ascending es (f ∷ fs) below up =
      ap (λ (t : List (K × V)). put_all cmp t fs) (insert_above es f.0 f.1 below.0)
      ∙ put_ascending (es ++ f ∷ []) fs (below_push es f fs below.1 up.0) up.1
      ∙ append_assoc es (f ∷ []) fs

  below_none : (fs : List (K × V)) → AreBelow [] fs
  below_none [] = tt
  below_none (f ∷ fs) = (tt, below_none fs)

  put_sorted : (fs : List (K × V)) → IsStrictlySortedBy cmp (keys_of fs) → fs ≡ put_all cmp [] fs
  put_sorted fs up = sym (put_ascending [] fs (below_none fs) up)

-- the keys ascend, and what is asked of keys and of values holds
abbrev pub AreFit : {K V : Type 0} → (K → K → Ordering) → (K → Type 0) → (V → Type 0) → List (K × V) → Type 0
AreFit cmp key_fits value_fits es =
    IsStrictlySortedBy cmp (keys_of es) × AllByRecursion (λ e. key_fits e.0 × value_fits e.1) es

-- ---- the pairs of a document

module _ {K V : Type 0} {cmp : K → K → Ordering} {key_doc : K → Doc} {value_doc : V → Doc} {keys : Context → Raw → K → Type 0} {values : Context → Raw → V → Type 0} {key_fits : K → Type 0} {value_fits : V → Type 0} {key_determined value_determined : Type 0}
    (total : IsTotalOrder cmp) (reported : IsToldByDocuments key_doc cmp) (key : IsReadBack key_doc keys key_fits key_determined) (value : IsReadBack value_doc values value_fits value_determined) where
  abbrev EntriesFit : List (K × V) → Type 0
  EntriesFit = AllByRecursion (λ e. key_fits e.0 × value_fits e.1)

  abbrev AreRead : Lends → Bool → Bool → List (K × V) → List (K × V) → Type 0
  AreRead l p g es = ArePairsRead (keys (lending all_formats l)) (values (lending all_formats l)) (raw_pairs_of (doc_pairs key_doc value_doc es) p g)

  pairs_itself : (es : List (K × V)) → EntriesFit es → (l : Lends) (p g : Bool) → AreRead l p g es es
  unfolding raw_pairs_of
  pairs_itself [] fit l p g = tt
  pairs_itself (e ∷ es) fit l p g =
      (key.itself e.0 fit.0.0 l p g, value.itself e.1 fit.0.1 l p g, pairs_itself es fit.1 l p g)

  pairs_alone : (es fs : List (K × V)) → EntriesFit es → (l : Lends) (p g : Bool) → AreRead l p g es fs
      → doc_pairs key_doc value_doc fs ≡ doc_pairs key_doc value_doc es
  unfolding raw_pairs_of
  pairs_alone [] [] fit l p g h = refl
  pairs_alone [] (f ∷ fs) fit l p g h = absurd h
  pairs_alone (e ∷ es) [] fit l p g h = absurd h
  pairs_alone (e ∷ es) (f ∷ fs) fit l p g h =
      ap₂ (λ (d c : Doc). doc_pair d c (doc_pairs key_doc value_doc fs)) (key.alone e.0 f.0 fit.0.0 l p g h.0) (value.alone e.1 f.1 fit.0.1 l p g h.1)
      ∙ ap (doc_pair (key_doc e.0) (value_doc e.1)) (pairs_alone es fs fit.1 l p g h.2)

  -- keys of the same documents ascend alike
  all_above : (k j : K) (es fs : List (K × V)) → key_doc j ≡ key_doc k → EntriesFit es → (l : Lends) (p g : Bool) → AreRead l p g es fs
      → AllByRecursion (λ y. cmp k y ≡ Less) (keys_of es) → AllByRecursion (λ y. cmp j y ≡ Less) (keys_of fs)
  unfolding raw_pairs_of
  all_above k j [] [] same fit l p g h up = tt
  all_above k j [] (f ∷ fs) same fit l p g h up = absurd h
  all_above k j (e ∷ es) [] same fit l p g h up = absurd h
  all_above k j (e ∷ es) (f ∷ fs) same fit l p g h up = (
    reported j f.0 k e.0 same (key.alone e.0 f.0 fit.0.0 l p g h.0) ∙ up.0,
    all_above k j es fs same fit.1 l p g h.2 up.1,
  )

  sorted_alike : (es fs : List (K × V)) → EntriesFit es → (l : Lends) (p g : Bool) → AreRead l p g es fs
      → IsStrictlySortedBy cmp (keys_of es) → IsStrictlySortedBy cmp (keys_of fs)
  unfolding raw_pairs_of IsStrictlySortedBy
  sorted_alike [] [] fit l p g h up = tt
  sorted_alike [] (f ∷ fs) fit l p g h up = absurd h
  sorted_alike (e ∷ es) [] fit l p g h up = absurd h
  sorted_alike (e ∷ es) (f ∷ fs) fit l p g h up = (
    all_above e.0 f.0 es fs (key.alone e.0 f.0 fit.0.0 l p g h.0) fit.1 l p g h.2 up.0,
    sorted_alike es fs fit.1 l p g h.2 up.1,
  )

  -- entries of the same documents, one by one
  abbrev Alike : List (K × V) → List (K × V) → Type 0
  Alike [] [] = Unit {0}
  Alike [] (f ∷ fs) = ⊥
  Alike (e ∷ es) [] = ⊥
  Alike (e ∷ es) (f ∷ fs) = (key_doc e.0 ≡ key_doc f.0) × (value_doc e.1 ≡ value_doc f.1) × Alike es fs

  alike_documents : (es fs : List (K × V)) → Alike es fs → doc_pairs key_doc value_doc es ≡ doc_pairs key_doc value_doc fs
  alike_documents [] [] h = refl
  alike_documents [] (f ∷ fs) h = absurd h
  alike_documents (e ∷ es) [] h = absurd h
  alike_documents (e ∷ es) (f ∷ fs) h =
      ap₂ (λ (d c : Doc). doc_pair d c (doc_pairs key_doc value_doc es)) h.0 h.1 ∙ ap (doc_pair (key_doc f.0) (value_doc f.1)) (alike_documents es fs h.2)

  read_alike : key_determined × value_determined → (c : Context) (rs : RawPairs) (es fs : List (K × V))
      → ArePairsRead (keys c) (values c) rs es → ArePairsRead (keys c) (values c) rs fs → Alike es fs
  read_alike d c no_raw_pairs [] [] h k = tt
  read_alike d c no_raw_pairs [] (f ∷ fs) h k = absurd k
  read_alike d c no_raw_pairs (e ∷ es) fs h k = absurd h
  read_alike d c (raw_pair q v rs) [] fs h k = absurd h
  read_alike d c (raw_pair q v rs) (e ∷ es) [] h k = absurd k
  read_alike d c (raw_pair q v rs) (e ∷ es) (f ∷ fs) h k =
      (key.single d.0 c q e.0 f.0 h.0 k.0, value.single d.1 c v e.1 f.1 h.1 k.1, read_alike d c rs es fs h.2 k.2)

  by_order : (o : Ordering) (less equal greater less' equal' greater' : List (K × V)) → Alike less less' → Alike equal equal' → Alike greater greater'
      → Alike (match_ordering o less equal greater) (match_ordering o less' equal' greater')
  by_order Less less equal greater less' equal' greater' a b c = a
  by_order Equal less equal greater less' equal' greater' a b c = b
  by_order Greater less equal greater less' equal' greater' a b c = c

  insert_alike : (es fs : List (K × V)) (k j : K) (v w : V) → Alike es fs → key_doc k ≡ key_doc j → value_doc v ≡ value_doc w
      → Alike (insert_entry cmp es k v) (insert_entry cmp fs j w)
  insert_alike [] [] k j v w h one two = (one, two, tt)
  insert_alike [] (f ∷ fs) k j v w h one two = absurd h
  insert_alike (e ∷ es) [] k j v w h one two = absurd h
  insert_alike (e ∷ es) (f ∷ fs) k j v w h one two =
      subst (λ (o : Ordering). Alike (insert_entry cmp (e ∷ es) k v) (match_ordering o ((j, w) ∷ f ∷ fs) ((f.0, w) ∷ fs) (f ∷ insert_entry cmp fs j w))) (reported k e.0 j f.0 one h.0)
      (by_order (cmp k e.0) ((k, v) ∷ e ∷ es) ((e.0, v) ∷ es) (e ∷ insert_entry cmp es k v) ((j, w) ∷ f ∷ fs) ((f.0, w) ∷ fs) (f ∷ insert_entry cmp fs j w)
      (one, two, h) (h.0, two, h.2) (h.0, h.1, insert_alike es fs k j v w h.2 one two))

  put_alike : (es fs ps qs : List (K × V)) → Alike es fs → Alike ps qs → Alike (put_all cmp es ps) (put_all cmp fs qs)
  put_alike es fs [] [] h same = h
  put_alike es fs [] (q ∷ qs) h same = absurd same
  put_alike es fs (p ∷ ps) [] h same = absurd same
  put_alike es fs (p ∷ ps) (q ∷ qs) h same =
      put_alike (insert_entry cmp es p.0 p.1) (insert_entry cmp fs q.0 q.1) ps qs (insert_alike es fs p.0 q.0 p.1 q.1 h same.0 same.1) same.2

  entries_one : key_determined × value_determined → (c : Context) (rs : RawPairs) (es fs : List (K × V))
      → AreEntries cmp (keys c) (values c) rs es → AreEntries cmp (keys c) (values c) rs fs
      → doc_pairs key_doc value_doc es ≡ doc_pairs key_doc value_doc fs
  entries_one d c rs es fs h k =
      ap (doc_pairs key_doc value_doc) h.put
      ∙ alike_documents (put_all cmp [] h.pairs) (put_all cmp [] k.pairs) (put_alike [] [] h.pairs k.pairs tt (read_alike d c rs h.pairs k.pairs h.read k.read))
      ∙ sym (ap (doc_pairs key_doc value_doc) k.put)

  pub map_back : {M : Type 0} {entries : M → List (K × V)}
      → IsReadBack (λ m. mapping declared (doc_pairs key_doc value_doc (entries m)))
      (λ c. PassesTags (AsMap (λ rs m. AreEntries cmp (keys c) (values c) rs (entries m))))
      (λ m. AreFit cmp key_fits value_fits (entries m)) (key_determined × value_determined)
  unfolding raw_of
  map_back {entries = entries} = record {
    itself = λ m fit l p g. record {
      pairs = entries m;
      read = pairs_itself (entries m) fit.1 l p g;
      put = put_sorted cmp total (entries m) fit.0;
    };
    alone = λ m n fit l p g h.
        let up = sorted_alike (entries m) h.pairs fit.1 l p g h.read fit.0 in
        ap (λ (es : List (K × V)). mapping declared (doc_pairs key_doc value_doc es)) (h.put ∙ sym (put_sorted cmp total h.pairs up))
        ∙ ap (mapping declared) (pairs_alone (entries m) h.pairs fit.1 l p g h.read);
    single = λ d c r m n h k.
        let of_map = in_map (λ rs o. AreEntries cmp (keys c) (values c) rs (entries o)) (untagged r) m n h k in
        ap (mapping declared) (entries_one d c of_map.0 (entries m) (entries n) of_map.1 of_map.2);
  }

-- ---- keys

abbrev bytes_in : Doc → List ℕ
bytes_in (text b) = b
bytes_in _ = []

abbrev number_in : Doc → ℤ
number_in (integer z) = z
number_in _ = pos 0

abbrev size : ℤ → ℕ
size (pos n) = n
size (negsuc n) = n

pub texts_reported : {Z : Type 0} → IsToldByDocuments (λ (s : String Z). text (string_bytes s)) (λ s t. slice_cmp nat_cmp (string_bytes s) (string_bytes t))
texts_reported a b c d one two = ap₂ (slice_cmp nat_cmp) (ap bytes_in one) (ap bytes_in two)

pub texts_total : {Z : Type 0} → IsTotalOrder (λ (s t : String Z). slice_cmp nat_cmp (string_bytes s) (string_bytes t))
texts_total = on_total string_bytes nat_list_cmp_total

pub naturals_reported : IsToldByDocuments (λ n. integer (pos n)) nat_cmp
naturals_reported a b c d one two = ap₂ nat_cmp (ap (λ d. size (number_in d)) one) (ap (λ d. size (number_in d)) two)

pub integers_reported : IsToldByDocuments integer int_cmp
integers_reported a b c d one two = ap₂ int_cmp (ap number_in one) (ap number_in two)
