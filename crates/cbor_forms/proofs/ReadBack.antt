-- What is encoded with shorter keys first is read back.
use Rattle.std.proofs.Common.{◌≡◌, ◌∙◌, sym, ap, ap₂, subst, refl, arith}
use Rattle.std.proofs.lemmas.Bool.{ltb-true, cond_both}
use Rattle.std.specs.Prelude.{ℕ, suc, ◌-◌, ◌^◌, ◌<◌, ◌≤◌, List, [], ◌++◌, IsUtf8, false, ltb}
use Rattle.cbor_model.specs.Head.{no_bytes, one_byte, two_bytes, four_bytes}
use Rattle.cbor_model.specs.Head.{limit, least, short}
use Rattle.cbor_model.specs.Raw as raw
use Rattle.cbor_model.specs.Raw.{Raw, Raws, no_raws, no_raw_pairs, depth, depth_all}
use Rattle.cbor_model.specs.Raw.{AreWellFormed, EachTextOfAll}
use Rattle.cbor_model.specs.Spelling.{spell, spell_all}
use Rattle.cbor_model.specs.Plain.{Val, null, bool, integer, float, bytes, text, array, map, tag}
use Rattle.cbor_model.specs.Plain.{Vals, no_vals, val, count, Pairs, no_pairs, pair, pair_count}
use Rattle.cbor_model.specs.Value.{value, values}
use Rattle.cbor_model.specs.Canonical.{canonical, canonical_all, canonical_pairs, canon}
use Rattle.cbor_model.specs.Canonical.{IsStorable, AreStorable, ArePairsStorable}
use Rattle.cbor_model.specs.Canonical.{IsOrdered, AreOrdered, ArePairsOrdered}
use Rattle.cbor_model.specs.InMemory.{IsInMemory, AreInMemory, ArePairsInMemory}
use Rattle.cbor_model.specs.Acceptable.{IsAcceptableWithin, max_depth}
use Rattle.cbor_model.specs.Document.{document_of}
use Rattle.cbor_model.specs.Laws.{SpellsValue}
use Rattle.cbor_model.proofs.facts.Laws.{document_is_acceptable, canonical_reads_back}
use Rattle.cbor_model.proofs.facts.Documents.{document_item, storable_document, document_in_range}
use Rattle.cbor_model.proofs.facts.Maps.{KeysAscend-from_IsOrdered, put_all-ascending}
use Rattle.cbor_forms.specs.FormEncoding.{SpellsAtDepth}
use Rattle.cbor_forms.specs.LengthFirst.{length_first, all_length_first, joined}
use Rattle.cbor_forms.proofs.DistinctKeys.{ascending_distinct}
use Rattle.cbor_forms.proofs.Sorted.{FitPairs, Encodes, PairsEncode, sorted}
use Rattle.cbor_forms.proofs.Sorted.{joined_strings}

-- a number below 2^64 fits its least width
fits_least : (n : ℕ) → n < 2 ^ 64 → n < limit (least n)
fits_least n most =
    cond_both (ltb n (limit no_bytes)) _ _ (λ w. n < limit w) (λ e. ltb-true n 24 e)
    (λ a. cond_both (ltb n (limit one_byte)) _ _ (λ w. n < limit w) (λ e. ltb-true n (2 ^ 8) e)
    (λ b. cond_both (ltb n (limit two_bytes)) _ _ (λ w. n < limit w) (λ e. ltb-true n (2 ^ 16) e)
    (λ c. cond_both (ltb n (limit four_bytes)) _ _ (λ w. n < limit w)
    (λ e. ltb-true n (2 ^ 32) e) (λ d. most))))

-- ---- what holds no others

leaf : (n : ℕ) (v : Val) → IsStorable v → IsOrdered v → IsInMemory v → depth (canonical v) ≤ n
    → length_first v ≡ canon v → Encodes n v
unfolding canon
leaf n v stored ordered held nests same =
    let item = document_item v false false in
    let is = subst (IsAcceptableWithin n) item
    (document_is_acceptable n (document_of v) false false (storable_document v stored)
    (document_in_range v held) (subst (λ (r : Raw). depth r ≤ n) (sym item) nests)) in record {
      item = canonical v;
      fit = record { fits = is.fits; texts = is.texts; nests = is.nests };
      spelled = sym same;
      valued = canonical_reads_back v ordered;
    }

-- ---- what holds others

record EncodeAll (n : ℕ) (vs : Vals) : Type 0 where
  items : Raws
  fits : AreWellFormed items
  texts : EachTextOfAll IsUtf8 items
  nests : depth_all items ≤ n
  spelled : spell_all items ≡ all_length_first vs
  valued : values items ≡ vs
  counted : raw.count items ≡ count vs

array_encoded : (n : ℕ) (vs : Vals) → count vs < 2 ^ 64 → 0 < n → EncodeAll (n - 1) vs
    → Encodes n (array vs)
unfolding spell value length_first
array_encoded n vs few deep all =
    let items = all.items in
    let below = all.nests in
    let same = all.counted in
    let counted : raw.count items < 2 ^ 64 = omega arith in record {
      item = raw.array (raw.definite (least (raw.count items))) items;
      fit = record {
        fits = (fits_least (raw.count items) counted, all.fits);
        texts = all.texts;
        nests = omega arith;
      };
      spelled = ap₂ (λ c bs. short 4 c ++ bs) same all.spelled;
      valued = ap array all.valued;
    }

map_encoded : (n : ℕ) (ps : Pairs) → pair_count ps < 2 ^ 64 → 0 < n → ArePairsOrdered ps
    → PairsEncode (n - 1) ps → Encodes n (map ps)
unfolding spell value length_first
map_encoded n ps few deep ordered each =
    let ascend = KeysAscend-from_IsOrdered ps ordered in
    let none : FitPairs (n - 1) no_raw_pairs =
    record { fits = tt; texts = tt; nests = omega arith } in
    let all = sorted (n - 1) ps no_raw_pairs each none (ascending_distinct ps ascend)
    (λ q key none. none) in
    let items = all.after in
    let below = all.fit.nests in
    let same = all.counted in
    let counted : raw.pair_count items < 2 ^ 64 = omega arith in
    let as_many : raw.pair_count items ≡ pair_count ps = omega arith in record {
      item = raw.map (raw.definite (least (raw.pair_count items))) items;
      fit = record {
        fits = (fits_least (raw.pair_count items) counted, all.fit.fits);
        texts = all.fit.texts;
        nests = omega arith;
      };
      spelled = ap₂ (λ c bs. short 5 c ++ bs) as_many
          (sym (joined_strings items) ∙ ap joined all.sorted);
      valued = ap map (all.same no_pairs tt ∙ put_all-ascending ps ascend);
    }

tag_encoded : (n t : ℕ) (v : Val) → t < 2 ^ 64 → 0 < n → Encodes (n - 1) v → Encodes n (tag t v)
unfolding spell value length_first
tag_encoded n t v few deep inner =
    let below = inner.fit.nests in record {
      item = raw.tag (least t) t inner.item;
      fit = record {
        fits = (fits_least t few, inner.fit.fits);
        texts = inner.fit.texts;
        nests = omega arith;
      };
      spelled = ap (λ (bs : List ℕ). short 6 t ++ bs) inner.spelled;
      valued = ap (tag t) inner.valued;
    }

no_items : (n : ℕ) → EncodeAll n no_vals
unfolding spell value length_first
no_items n = record {
  items = no_raws;
  fits = tt;
  texts = tt;
  nests = omega arith;
  spelled = refl;
  valued = refl;
  counted = refl;
}

next_item : (n : ℕ) (v : Val) (vs : Vals) → Encodes n v → EncodeAll n vs
    → EncodeAll n (val v vs)
unfolding spell value length_first
next_item n v vs one rest =
    let a = one.fit.nests in
    let b = rest.nests in record {
      items = raw.raw one.item rest.items;
      fits = (one.fit.fits, rest.fits);
      texts = (one.fit.texts, rest.texts);
      nests = omega arith;
      spelled = ap₂ (λ x y. x ++ y) one.spelled rest.spelled;
      valued = ap₂ (λ x y. val x y) one.valued rest.valued;
      counted = ap suc rest.counted;
    }

mutual
  unfolding length_first canonical

  pub encodes : (v : Val) (n : ℕ) → IsStorable v → IsOrdered v → IsInMemory v
      → depth (canonical v) ≤ n → Encodes n v
  encodes null n st or mem nests = leaf n null st or mem nests refl
  encodes (bool b) n st or mem nests = leaf n (bool b) st or mem nests refl
  encodes (integer z) n st or mem nests = leaf n (integer z) st or mem nests refl
  encodes (float w b) n st or mem nests = leaf n (float w b) st or mem nests refl
  encodes (bytes b) n st or mem nests = leaf n (bytes b) st or mem nests refl
  encodes (text b) n st or mem nests = leaf n (text b) st or mem nests refl
  encodes (array vs) n st or mem nests =
      array_encoded n vs mem.0 (omega arith) (all_encode vs (n - 1) st or mem.1 (omega arith))
  encodes (map ps) n st or mem nests =
      map_encoded n ps mem.0 (omega arith) or (pairs_encode ps (n - 1) st or mem.1 (omega arith))
  encodes (tag t v) n st or mem nests =
      tag_encoded n t v mem.0 (omega arith) (encodes v (n - 1) st or mem.1 (omega arith))

  all_encode : (vs : Vals) (n : ℕ) → AreStorable vs → AreOrdered vs → AreInMemory vs
      → raw.depth_all (canonical_all vs) ≤ n → EncodeAll n vs
  all_encode no_vals n st or mem nests = no_items n
  all_encode (val v vs) n st or mem nests =
      next_item n v vs (encodes v n st.0 or.0 mem.0 (omega arith))
      (all_encode vs n st.1 or.1 mem.1 (omega arith))

  pairs_encode : (ps : Pairs) (n : ℕ) → ArePairsStorable ps → ArePairsOrdered ps
      → ArePairsInMemory ps → raw.depth_pairs (canonical_pairs ps) ≤ n → PairsEncode n ps
  pairs_encode no_pairs n st or mem nests = tt
  pairs_encode (pair k v ps) n st or mem nests = (
    encodes k n st.0 or.1 mem.0 (omega arith),
    encodes v n st.1 or.2 mem.1 (omega arith),
    pairs_encode ps n st.2 or.3 mem.2 (omega arith),
  )

-- what is encoded so, and nests at most 127 levels, is read as the value
pub read_back : (v : Val) → IsStorable v → IsOrdered v → IsInMemory v
    → depth (canonical v) ≤ max_depth → SpellsValue (length_first v) v
read_back v st or mem nests =
    let e = encodes v max_depth st or mem nests in record {
      item = e.item;
      acceptable = record { fits = e.fit.fits; nests = e.fit.nests; texts = e.fit.texts };
      spelled = e.spelled;
      valued = sym e.valued;
    }

pub read_from : (s v : Val) (start wrote : List ℕ) → v ≡ s → IsStorable v → IsOrdered s
    → IsInMemory v → start ≡ [] → wrote ≡ start ++ length_first v
    → depth (canonical s) ≤ max_depth → SpellsValue wrote s
read_from s v start wrote same st or mem none is_written nests =
    let is : wrote ≡ length_first s =
    is_written ∙ ap₂ (λ x y. x ++ length_first y) none same in
    subst (λ (bs : List ℕ). SpellsValue bs s) (sym is)
    (read_back s (subst IsStorable same st) or (subst IsInMemory same mem) nests)

-- and however deep it nests, an item is encoded so of which it is the value
pub spelled_from : (s v : Val) (start wrote : List ℕ) → v ≡ s → IsStorable v → IsOrdered s
    → IsInMemory v → start ≡ [] → wrote ≡ start ++ length_first v → SpellsAtDepth wrote s
spelled_from s v start wrote same st or mem none is_written =
    let is : wrote ≡ length_first s =
    is_written ∙ ap₂ (λ x y. x ++ length_first y) none same in
    let e = encodes s (depth (canonical s)) (subst IsStorable same st) or
    (subst IsInMemory same mem) (omega arith) in record {
      item = e.item;
      acceptable = record { fits = e.fit.fits; nests = e.fit.nests; texts = e.fit.texts };
      spelled = e.spelled ∙ sym is;
      valued = sym e.valued;
    }
