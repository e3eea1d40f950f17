-- Which items keep the rule of unique keys.
use Rattle.std.proofs.Common.{◌≡◌, ℕ, suc, ◌+◌, ◌<◌, ◌≤◌, ◌^◌, Bool, true, false, List, [], ◌∷◌, ◌++◌, length, refl, sym, ap, subst, ◌∙◌, arith}
use Rattle.std.specs.Prelude.{◌&&◌, ◌||◌, IsUtf8}
use Rattle.std.specs.List.{AllByRecursion}
use Rattle.std.specs.Ordering.{is_eq}
use Rattle.std.specs.declared.cmp.Ordering.{Ordering}
use Rattle.std.specs.declared.cmp.Ordering.TheVariants.{Less, Equal, Greater}
use Rattle.std.proofs.lemmas.Cmp.{nat_list_cmp_total, tied_itself}
use Rattle.std.proofs.lemmas.List.{length-append}
use Rattle.std.proofs.lemmas.Map.Lookups.{exact_bytes}
use Rattle.cbor_model.specs.Acceptable.{IsAcceptable, max_depth}
use Rattle.cbor_model.specs.Canonical.{canon, IsStorable}
use Rattle.cbor_model.specs.Head.{head}
use Rattle.cbor_model.specs.InRange.{IsInRange}
use Rattle.cbor_model.specs.Order.{lex}
use Rattle.cbor_model.specs.Plain.{Val}
use Rattle.cbor_model.specs.Raw as raw
use Rattle.cbor_model.specs.Raw.{Chunk, Raw, Raws, no_raws, RawPairs, no_raw_pairs, raw_pair, definite, indefinite, IsWellFormed, AreWellFormed, ArePairsWellFormed, depth, depth_all, depth_pairs, EachText, EachTextOfAll, EachTextOfPairs, count, pair_count}
use Rattle.cbor_model.specs.Spelling.{spell, spell_all, spell_pairs, chunk, break}
use Rattle.cbor_model.specs.Value.{value}
use Rattle.cbor_model.proofs.facts.Laws.{equal_bytes, value_is_canonical}
use Rattle.cbor_rules.specs.Features.{Place, place, key, features, all_features, open_features, pair_features, chunk_places, head_end, nth_item}
use Rattle.cbor_rules.specs.Rules.{Terms, breaks, canonical_key, has_key, is_unique}
use Rattle.cbor_rules.specs.Unique.{HasUniqueKeys, HaveUniqueKeys, PairsHaveUniqueKeys, UniqueKeysAreKept}
use Rattle.cbor_rules.specs.declared.settings.Rule.TheVariants.{UniqueKeys}
use Rattle.cbor_rules.proofs.Canonical.{in_range}
use Rattle.cbor_rules.proofs.CanonicalKeys.{key_of_value}

-- ---- the encodings of keys, and their values

-- the bytes are a key of this value
record IsOf (bytes : List ℕ) (v : Val) : Type 0 where
  key : canonical_key bytes ≡ canon v
  stored : IsStorable v
  held : IsInRange v

-- the keys are of these values
abbrev AreOf : List (List ℕ) → List Val → Type 0
AreOf [] [] = Unit {0}
AreOf [] (v ∷ vs) = ⊥
AreOf (b ∷ bs) [] = ⊥
AreOf (b ∷ bs) (v ∷ vs) = IsOf b v × AreOf bs vs

key_is : (k : Raw) → IsWellFormed k → depth k ≤ max_depth → EachText IsUtf8 k → length (spell k) < 2 ^ 64 → IsOf (spell k) (value k)
key_is k fits nests texts short =
    let acceptable : IsAcceptable k = record { fits = fits; nests = nests; texts = texts } in
    let canonical = value_is_canonical max_depth k acceptable short in
    record {
      key = key_of_value (spell k) (value k) short (record { item = k; acceptable = acceptable; spelled = refl; valued = refl });
      stored = canonical.0;
      held = in_range (value k) canonical.2.fits;
    }

equal_from : (o : Ordering) → is_eq o ≡ true → o ≡ Equal
equal_from Less is = absurd cc
equal_from Equal is = refl
equal_from Greater is = absurd cc

both_false : (a b : Bool) → (a || b) ≡ false → (a ≡ false) × (b ≡ false)
both_false true b is = absurd cc
both_false false b is = (refl, is)

one_false : (a b : Bool) → a ≡ false → b ≡ false → (a || b) ≡ false
one_false a b is other = rw (is, other) refl

not_true : (b : Bool) → (b ≡ true → ⊥) → b ≡ false
not_true true none = absurd (none refl)
not_true false none = refl

module _ (bytes : List ℕ) (v : Val) (of : IsOf bytes v) where
  module _ (b : List ℕ) (w : Val) (is : IsOf b w) where
    same_value : is_eq (lex (canonical_key b) (canonical_key bytes)) ≡ true → w ≡ v
    same_value e =
        let one : canonical_key b ≡ canonical_key bytes = exact_bytes (canonical_key b) (canonical_key bytes) (equal_from (lex (canonical_key b) (canonical_key bytes)) e) in
        equal_bytes w v is.stored of.stored is.held of.held (sym is.key ∙ one ∙ of.key)

    same_bytes : w ≡ v → is_eq (lex (canonical_key b) (canonical_key bytes)) ≡ true
    same_bytes e =
        let one : canonical_key b ≡ canonical_key bytes = is.key ∙ ap canon e ∙ sym of.key in
        ap is_eq (ap (λ (c : List ℕ). lex c (canonical_key bytes)) one ∙ tied_itself nat_list_cmp_total (canonical_key bytes))

    other_value : is_eq (lex (canonical_key b) (canonical_key bytes)) ≡ false → w ≡ v → ⊥
    other_value none e = absurd (let some = same_bytes e in cc)

  apart : (bs : List (List ℕ)) (vs : List Val) → AreOf bs vs → has_key bs (canonical_key bytes) ≡ false → AllByRecursion (λ (e : Val). e ≡ v → ⊥) vs
  apart [] [] all none = tt
  apart [] (w ∷ vs) all none = absurd all
  apart (b ∷ bs) [] all none = absurd all
  apart (b ∷ bs) (w ∷ vs) all none =
      let each = both_false (is_eq (lex (canonical_key b) (canonical_key bytes))) (has_key bs (canonical_key bytes)) none in
      (other_value b w all.0 each.0, apart bs vs all.1 each.1)

  none_among : (bs : List (List ℕ)) (vs : List Val) → AreOf bs vs → AllByRecursion (λ (e : Val). e ≡ v → ⊥) vs → has_key bs (canonical_key bytes) ≡ false
  none_among [] [] all others = refl
  none_among [] (w ∷ vs) all others = absurd all
  none_among (b ∷ bs) [] all others = absurd all
  none_among (b ∷ bs) (w ∷ vs) all others =
      one_false (is_eq (lex (canonical_key b) (canonical_key bytes))) (has_key bs (canonical_key bytes))
      (not_true _ (λ e. others.0 (same_value b w all.0 e))) (none_among bs vs all.1 others.1)

-- ---- items

module _ (terms : Terms) where
  abbrev AreKept : List Place → Type 0
  AreKept = AllByRecursion (λ (p : Place). breaks terms UniqueKeys p.feature ≡ false)

  first_kept : (ps qs : List Place) → AreKept (ps ++ qs) → AreKept ps
  first_kept [] qs all = tt
  first_kept (p ∷ ps) qs all = (all.0, first_kept ps qs all.1)

  rest_kept : (ps qs : List Place) → AreKept (ps ++ qs) → AreKept qs
  rest_kept [] qs all = all
  rest_kept (p ∷ ps) qs all = rest_kept ps qs all.1

  both_kept : (ps qs : List Place) → AreKept ps → AreKept qs → AreKept (ps ++ qs)
  both_kept [] qs one other = other
  both_kept (p ∷ ps) qs one other = (one.0, both_kept ps qs one.1 other)

  chunks_kept : (at major sum : ℕ) (cs : List Chunk) → AreKept (chunk_places at major sum cs)
  chunks_kept at major sum [] = tt
  chunks_kept at major sum (c ∷ cs) = (refl, (refl, chunks_kept (at + length (chunk major c)) major (sum + length c.bytes) cs))

-- each says the other
abbrev Same : Type 0 → Type 0 → Type 0
Same A B = (A → B) × (B → A)

module _ (terms : Terms) (unique : is_unique terms.rules.keys ≡ true) where
  mutual
    unfolding features spell value

    same : (at : ℕ) (r : Raw) → IsWellFormed r → depth r ≤ max_depth → EachText IsUtf8 r → length (spell r) < 2 ^ 64 → Same (AreKept terms (features at r)) (HasUniqueKeys r)
    same at (raw.unsigned w n) fits nests texts short = (λ k. tt, λ u. (refl, tt))
    same at (raw.negative w n) fits nests texts short = (λ k. tt, λ u. (refl, tt))
    same at (raw.bytes c) fits nests texts short = (λ k. tt, λ u. (refl, tt))
    same at (raw.text c) fits nests texts short = (λ k. tt, λ u. (refl, tt))
    same at (raw.bytes_chunks cs) fits nests texts short = (λ k. tt, λ u. (refl, chunks_kept terms (suc at) 2 0 cs))
    same at (raw.text_chunks cs) fits nests texts short = (λ k. tt, λ u. (refl, chunks_kept terms (suc at) 3 0 cs))
    same at (raw.array (definite w) rs) fits nests texts short =
        let front = head 4 w (count rs) in
        let inside = all_same (head_end at 4 w (count rs)) rs fits.1 (omega (arith, nests)) texts (omega (arith, short, length-append front (spell_all rs))) in
        (λ k. inside.0 k.1, λ u. (refl, inside.1 u))
    same at (raw.array indefinite rs) fits nests texts short =
        let inside = open_same (suc at) 0 rs fits.1 (omega (arith, nests)) texts (omega (arith, short, length-append (spell_all rs) break)) in
        (λ k. inside.0 k.1, λ u. (refl, inside.1 u))
    same at (raw.map (definite w) ps) fits nests texts short =
        let front = head 5 w (pair_count ps) in
        let inside = pairs_same (head_end at 5 w (pair_count ps)) [] [] ps tt fits.1 (omega (arith, nests)) texts (omega (arith, short, length-append front (spell_pairs ps))) in
        (λ k. inside.0 k.1, λ u. (refl, inside.1 u))
    same at (raw.map indefinite ps) fits nests texts short =
        let inside = pairs_same (suc at) [] [] ps tt fits.1 (omega (arith, nests)) texts (omega (arith, short, length-append (spell_pairs ps) break)) in
        (λ k. inside.0 k.1, λ u. (refl, inside.1 u))
    same at (raw.tag w n r) fits nests texts short =
        let front = head 6 w n in
        let inside = same (head_end at 6 w n) r fits.1 (omega (arith, nests)) texts (omega (arith, short, length-append front (spell r))) in
        (λ k. inside.0 k.1, λ u. (refl, inside.1 u))
    same at (raw.simple s) fits nests texts short = (λ k. tt, λ u. (refl, tt))
    same at (raw.float w bits) fits nests texts short = (λ k. tt, λ u. (refl, tt))

    all_same : (at : ℕ) (rs : Raws) → AreWellFormed rs → depth_all rs ≤ max_depth → EachTextOfAll IsUtf8 rs → length (spell_all rs) < 2 ^ 64 → Same (AreKept terms (all_features at rs)) (HaveUniqueKeys rs)
    all_same at no_raws fits nests texts short = (λ k. tt, λ u. tt)
    all_same at (raw.raw r rs) fits nests texts short =
        let more = all_features (at + length (spell r)) rs in
        let parts = length-append (spell r) (spell_all rs) in
        let one = same at r fits.0 (omega (arith, nests)) texts.0 (omega (arith, short, parts)) in
        let others = all_same (at + length (spell r)) rs fits.1 (omega (arith, nests)) texts.1 (omega (arith, short, parts)) in (
          λ k. (one.0 (first_kept terms (features at r) more k), others.0 (rest_kept terms (features at r) more k)),
          λ u. both_kept terms (features at r) more (one.1 u.0) (others.1 u.1),
        )

    open_same : (at earlier : ℕ) (rs : Raws) → AreWellFormed rs → depth_all rs ≤ max_depth → EachTextOfAll IsUtf8 rs → length (spell_all rs) < 2 ^ 64 → Same (AreKept terms (open_features at earlier rs)) (HaveUniqueKeys rs)
    open_same at earlier no_raws fits nests texts short = (λ k. tt, λ u. tt)
    open_same at earlier (raw.raw r rs) fits nests texts short =
        let more = open_features (at + length (spell r)) (earlier + 1) rs in
        let behind = place (at + length (spell r)) (nth_item earlier) ∷ more in
        let parts = length-append (spell r) (spell_all rs) in
        let one = same at r fits.0 (omega (arith, nests)) texts.0 (omega (arith, short, parts)) in
        let others = open_same (at + length (spell r)) (earlier + 1) rs fits.1 (omega (arith, nests)) texts.1 (omega (arith, short, parts)) in (
          λ k. (one.0 (first_kept terms (features at r) behind k), others.0 (rest_kept terms (features at r) behind k).1),
          λ u. both_kept terms (features at r) behind (one.1 u.0) (refl, others.1 u.1),
        )

    pairs_same : (at : ℕ) (bs : List (List ℕ)) (vs : List Val) (ps : RawPairs) → AreOf bs vs → ArePairsWellFormed ps → depth_pairs ps ≤ max_depth → EachTextOfPairs IsUtf8 ps → length (spell_pairs ps) < 2 ^ 64 → Same (AreKept terms (pair_features at bs ps)) (PairsHaveUniqueKeys vs ps)
    pairs_same at bs vs no_raw_pairs of fits nests texts short = (λ k. tt, λ u. tt)
    pairs_same at bs vs (raw_pair k v ps) of fits nests texts short =
        let name = spell k in
        let here = at + length name in
        let there = at + length name + length (spell v) in
        let others = pair_features there (name ∷ bs) ps in
        let behind = features here v ++ others in
        let key_parts = length-append name (spell v ++ spell_pairs ps) in
        let value_parts = length-append (spell v) (spell_pairs ps) in
        let is = key_is k fits.0 (omega (arith, nests)) texts.0 (omega (arith, short, key_parts)) in
        let one = same at k fits.0 (omega (arith, nests)) texts.0 (omega (arith, short, key_parts)) in
        let two = same here v fits.1 (omega (arith, nests)) texts.1 (omega (arith, short, key_parts, value_parts)) in
        let more = pairs_same there (name ∷ bs) (value k ∷ vs) ps (is, of) fits.2 (omega (arith, nests)) texts.2 (omega (arith, short, key_parts, value_parts)) in
        let feature = place here (key bs name) in (
          λ kept.
              let rest = rest_kept terms (features at k) (feature ∷ behind) kept in
              let new : has_key bs (canonical_key name) ≡ false = subst (λ (b : Bool). (b && has_key bs (canonical_key name)) ≡ false) unique rest.0 in (
                one.0 (first_kept terms (features at k) (feature ∷ behind) kept),
                apart name (value k) is bs vs of new,
                two.0 (first_kept terms (features here v) others rest.1),
                more.0 (rest_kept terms (features here v) others rest.1),
              ),
          λ u.
              let new : has_key bs (canonical_key name) ≡ false = none_among name (value k) is bs vs of u.1 in
              both_kept terms (features at k) (feature ∷ behind) (one.1 u.0) (
                subst (λ (b : Bool). (b && has_key bs (canonical_key name)) ≡ false) (sym unique) new,
                both_kept terms (features here v) others (two.1 u.2) (more.1 u.3),
              ),
        )

pub unique_keys_are_kept : UniqueKeysAreKept
unique_keys_are_kept terms bytes v order short spelt =
    let r = spelt.item in
    same terms (ap is_unique order) 0 r spelt.acceptable.fits spelt.acceptable.nests spelt.acceptable.texts (subst (λ (b : List ℕ). length b < 2 ^ 64) (sym spelt.spelled) short)
