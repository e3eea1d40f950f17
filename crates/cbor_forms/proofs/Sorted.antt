-- Items of pairs, put in the order of their keys' encodings: none is lost, and the value stays.
use Rattle.std.proofs.Common.{◌≡◌, ◌∙◌, ◌⊎◌, inl, inr, sym, ap, ap₂, subst, refl, arith}
use Rattle.std.proofs.Common.{Ordering, Less, Equal, Greater, Bool, true, false, cond, Some}
use Rattle.std.specs.Prelude.{ℕ, suc, ◌+◌, ◌≤◌, List, [], ◌++◌, IsUtf8}
use Rattle.std.proofs.lemmas.List.{append-nil}
use Rattle.std.specs.Cmp.{IsTotalOrder, Equal-is}
use Rattle.std.specs.Cmp.Lexicographic.{nat_list_cmp_total}
use Rattle.std.specs.Ordering.{eq_by_cmp}
use Rattle.std.specs.FinMap as finmap
use Rattle.std.specs.FinMap.{find, get-insert}
use Rattle.cbor_model.specs.Raw as raw
use Rattle.cbor_model.specs.Raw.{Raw, RawPairs, no_raw_pairs, raw_pair, depth, depth_pairs}
use Rattle.cbor_model.specs.Raw.{IsWellFormed, ArePairsWellFormed, EachText, EachTextOfPairs}
use Rattle.cbor_model.specs.Spelling.{spell, spell_pairs}
use Rattle.cbor_model.specs.Plain.{Val, bytes, Pairs, no_pairs, pair, pair_count}
use Rattle.cbor_model.specs.Order.{flat, val_cmp}
use Rattle.cbor_model.specs.Value.{value, pairs, put, by_order}
use Rattle.cbor_model.specs.Canonical.{KeysAscend}
use Rattle.cbor_model.specs.FiniteMap.{entries, finite_map, put_all}
use Rattle.cbor_model.proofs.facts.Laws.{one_spelling}
use Rattle.cbor_model.proofs.facts.Order.{same_key}
use Rattle.cbor_model.proofs.facts.Maps.{KeysAscend-put, KeysAscend-put_all, get-finite_map}
use Rattle.cbor_model.proofs.facts.Maps.{finite_map-put, same_pairs}
use Rattle.cbor_forms.specs.LengthFirst.{length_first, encoded, content, joined}
use Rattle.cbor_forms.specs.Shortened.{IsKeyOf, AreDistinct}

-- ---- two pairs of different keys may be put in in either order

total : IsTotalOrder val_cmp
total = record {
  antisymm = λ a b. nat_list_cmp_total.antisymm (flat a) (flat b);
  trans = λ a b c. nat_list_cmp_total.trans (flat a) (flat b) (flat c);
  congr = λ a b c. nat_list_cmp_total.congr (flat a) (flat b) (flat c);
}

found_put : (q k v : Val) (ps : Pairs) → KeysAscend ps → find val_cmp q (entries (put k v ps))
    ≡ cond (eq_by_cmp val_cmp q k) (Some v) (find val_cmp q (entries ps))
found_put q k v ps ascend =
    sym (get-finite_map q (put k v ps))
    ∙ ap (λ m. finmap.get m q) (finite_map-put k v ps ascend)
    ∙ get-insert total (finite_map ps) k v q
    ∙ ap (cond (eq_by_cmp val_cmp q k) (Some v)) (get-finite_map q ps)

either_order : {A : Type 0} (a b : Bool) (x y z : A) → (a ≡ true → b ≡ true → ⊥)
    → cond a x (cond b y z) ≡ cond b y (cond a x z)
either_order true true x y z apart = absurd (apart refl refl)
either_order true false x y z apart = refl
either_order false b x y z apart = refl

same_tied : (q k : Val) → eq_by_cmp val_cmp q k ≡ true → q ≡ k
same_tied q k is = same_key q k ((Equal-is (val_cmp q k)).0 is)

put_either : (k v l w : Val) (ps : Pairs) → (k ≡ l → ⊥) → KeysAscend ps
    → put k v (put l w ps) ≡ put l w (put k v ps)
put_either k v l w ps apart ascend =
    let first = KeysAscend-put l w ps ascend in
    let second = KeysAscend-put k v ps ascend in
    same_pairs (put k v (put l w ps)) (put l w (put k v ps))
    (KeysAscend-put k v (put l w ps) first) (KeysAscend-put l w (put k v ps) second)
    (λ q. let a = eq_by_cmp val_cmp q k in
    let b = eq_by_cmp val_cmp q l in
    found_put q k v (put l w ps) first
    ∙ ap (cond a (Some v)) (found_put q l w ps ascend)
    ∙ either_order a b (Some v) (Some w) (find val_cmp q (entries ps))
    (λ x y. apart (sym (same_tied q k x) ∙ same_tied q l y))
    ∙ ap (cond b (Some w)) (sym (found_put q k v ps ascend))
    ∙ sym (found_put q l w (put k v ps) second))

put_through : (k v : Val) (ps before : Pairs) → (IsKeyOf k ps → ⊥) → KeysAscend before
    → put k v (put_all ps before) ≡ put_all ps (put k v before)
put_through k v no_pairs before apart ascend = refl
put_through k v (pair l w ps) before apart ascend =
    put_through k v ps (put l w before) (λ later. apart (inr later)) (KeysAscend-put l w before ascend)
    ∙ ap (put_all ps) (put_either k v l w before (λ is. apart (inl is)) ascend)

-- ---- pairs of items

-- their encodings as byte strings, and their values
abbrev pub strings : RawPairs → Pairs
strings no_raw_pairs = no_pairs
strings (raw_pair k v ps) = pair (bytes (spell k)) (bytes (spell v)) (strings ps)

abbrev pub valued : RawPairs → Pairs
valued no_raw_pairs = no_pairs
valued (raw_pair k v ps) = pair (value k) (value v) (valued ps)

pub joined_strings : (ps : RawPairs) → joined (strings ps) ≡ spell_pairs ps
unfolding spell
joined_strings no_raw_pairs = refl
joined_strings (raw_pair k v ps) =
    ap (λ (z : List ℕ). spell k ++ (spell v ++ z)) (joined_strings ps)

-- well formed, of texts in UTF-8, and nested so deep
pub record Fit (n : ℕ) (r : Raw) : Type 0 where
  pub fits : IsWellFormed r
  pub texts : EachText IsUtf8 r
  pub nests : depth r ≤ n

pub record FitPairs (n : ℕ) (ps : RawPairs) : Type 0 where
  pub fits : ArePairsWellFormed ps
  pub texts : EachTextOfPairs IsUtf8 ps
  pub nests : depth_pairs ps ≤ n

fit_pair : (n : ℕ) (k v : Raw) (ps : RawPairs) → Fit n k → Fit n v → FitPairs n ps
    → FitPairs n (raw_pair k v ps)
fit_pair n k v ps key val rest =
    let a = key.nests in
    let b = val.nests in
    let c = rest.nests in record {
      fits = (key.fits, val.fits, rest.fits);
      texts = (key.texts, val.texts, rest.texts);
      nests = omega arith;
    }

pub record Inserted (n : ℕ) (k v : Raw) (ps : RawPairs) : Type 0 where
  pub after : RawPairs
  pub fit : FitPairs n after
  pub counted : raw.pair_count after ≡ suc (raw.pair_count ps)
  pub sorted : strings after ≡ put (bytes (spell k)) (bytes (spell v)) (strings ps)
  pub keys : (q : Val) → IsKeyOf q (valued after) → (q ≡ value k) ⊎ IsKeyOf q (valued ps)
  pub same : (before : Pairs) → KeysAscend before
      → pairs after before ≡ pairs ps (put (value k) (value v) before)

abbrev put_to : Ordering → Raw → Raw → Raw → Raw → RawPairs → Pairs
put_to o k v l w ps =
    by_order o
    (pair (bytes (spell k)) (bytes (spell v)) (pair (bytes (spell l)) (bytes (spell w)) (strings ps)))
    (pair (bytes (spell k)) (bytes (spell v)) (strings ps))
    (pair (bytes (spell l)) (bytes (spell w)) (put (bytes (spell k)) (bytes (spell v)) (strings ps)))

step : (n : ℕ) (k v l w : Raw) (ps : RawPairs) (o : Ordering)
    → val_cmp (bytes (spell k)) (bytes (spell l)) ≡ o → Fit n k → Fit n v
    → FitPairs n (raw_pair l w ps) → (IsKeyOf (value k) (valued (raw_pair l w ps)) → ⊥)
    → Inserted n k v ps → Inserted n k v (raw_pair l w ps)
unfolding value
step n k v l w ps Less is key val fit apart rest = record {
  after = raw_pair k v (raw_pair l w ps);
  fit = fit_pair n k v (raw_pair l w ps) key val fit;
  counted = refl;
  sorted = sym (ap (λ (o : Ordering). put_to o k v l w ps) is);
  keys = λ q h. h;
  same = λ before ascend. refl;
}
step n k v l w ps Equal is key val fit apart rest =
    let spelled : spell k ≡ spell l = ap content (same_key (bytes (spell k)) (bytes (spell l)) is) in
    let one = one_spelling k l [] key.fits fit.fits.0 (append-nil (spell k) ∙ spelled) in
    absurd (apart (inl (ap value one.0)))
step n k v l w ps Greater is key val fit apart rest =
    let deep = fit.nests in
    let of_key : Fit n l = record { fits = fit.fits.0; texts = fit.texts.0; nests = omega arith } in
    let of_value : Fit n w =
    record { fits = fit.fits.1; texts = fit.texts.1; nests = omega arith } in record {
      after = raw_pair l w rest.after;
      fit = fit_pair n l w rest.after of_key of_value rest.fit;
      counted = ap suc rest.counted;
      sorted = ap (pair (bytes (spell l)) (bytes (spell w))) rest.sorted
          ∙ sym (ap (λ (o : Ordering). put_to o k v l w ps) is);
      keys = λ q h. elim h [
        | inl first ↦ inr (inl first)
        | inr later ↦ elim (rest.keys q later) [
          | inl same ↦ inl same
          | inr before ↦ inr (inr before)
        ]
      ];
      same = λ before ascend.
          rest.same (put (value l) (value w) before)
          (KeysAscend-put (value l) (value w) before ascend)
          ∙ ap (pairs ps)
          (put_either (value k) (value v) (value l) (value w) before (λ e. apart (inl e)) ascend);
    }

inserted : (n : ℕ) (k v : Raw) (ps : RawPairs) → Fit n k → Fit n v → FitPairs n ps
    → (IsKeyOf (value k) (valued ps) → ⊥) → Inserted n k v ps
unfolding value
inserted n k v no_raw_pairs key val fit apart = record {
  after = raw_pair k v no_raw_pairs;
  fit = fit_pair n k v no_raw_pairs key val fit;
  counted = refl;
  sorted = refl;
  keys = λ q h. h;
  same = λ before ascend. refl;
}
inserted n k v (raw_pair l w ps) key val fit apart =
    let deep = fit.nests in
    let rest : FitPairs n ps =
    record { fits = fit.fits.2; texts = fit.texts.2; nests = omega arith } in
    step n k v l w ps (val_cmp (bytes (spell k)) (bytes (spell l))) refl key val fit apart
    (inserted n k v ps key val rest (λ later. apart (inr later)))

-- ---- the pairs of a map

-- the bytes spell an item of the value, which nests so deep
pub record Encodes (n : ℕ) (v : Val) : Type 0 where
  pub item : Raw
  pub fit : Fit n item
  pub spelled : spell item ≡ length_first v
  pub valued : value item ≡ v

abbrev pub PairsEncode : ℕ → Pairs → Type 0
PairsEncode n no_pairs = Unit {0}
PairsEncode n (pair k v ps) = Encodes n k × Encodes n v × PairsEncode n ps

pub record Sorted (n : ℕ) (ps : Pairs) (before : RawPairs) : Type 0 where
  pub after : RawPairs
  pub fit : FitPairs n after
  pub counted : raw.pair_count after ≡ pair_count ps + raw.pair_count before
  pub sorted : strings after ≡ put_all (encoded ps) (strings before)
  pub same : (onto : Pairs) → KeysAscend onto → pairs after onto ≡ pairs before (put_all ps onto)

pub sorted : (n : ℕ) (ps : Pairs) (before : RawPairs) → PairsEncode n ps → FitPairs n before
    → AreDistinct ps → ((q : Val) → IsKeyOf q ps → IsKeyOf q (valued before) → ⊥)
    → Sorted n ps before
unfolding length_first
sorted n no_pairs before each fit distinct apart = record {
  after = before;
  fit = fit;
  counted = omega arith;
  sorted = refl;
  same = λ onto ascend. refl;
}
sorted n (pair k v ps) before each fit distinct apart =
    let key = each.0 in
    let val = each.1 in
    let one = inserted n key.item val.item before key.fit val.fit fit
    (λ h. apart k (inl refl) (subst (λ (x : Val). IsKeyOf x (valued before)) key.valued h)) in
    let rest = sorted n ps one.after each.2 one.fit distinct.1 (λ q later old.
    elim (one.keys q old) [
      | inl is ↦ distinct.0 (subst (λ (x : Val). IsKeyOf x ps) (is ∙ key.valued) later)
      | inr earlier ↦ apart q (inr later) earlier
    ]) in
    let a = rest.counted in
    let b = one.counted in record {
      after = rest.after;
      fit = rest.fit;
      counted = omega arith;
      sorted = rest.sorted
          ∙ ap (put_all (encoded ps))
          (one.sorted
          ∙ ap₂ (λ x y. put (bytes x) (bytes y) (strings before)) key.spelled val.spelled);
      same = λ onto ascend.
          rest.same onto ascend
          ∙ one.same (put_all ps onto) (KeysAscend-put_all ps onto ascend)
          ∙ ap₂ (λ x y. pairs before (put x y (put_all ps onto))) key.valued val.valued
          ∙ ap (pairs before) (put_through k v ps onto distinct.0 ascend);
    }
