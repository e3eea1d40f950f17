-- An item in which a text stands, where the bytes before it want an item.
use Rattle.std.proofs.Common.{◌≡◌, ◌⊎◌, ℕ, zero, suc, ◌+◌, ◌-◌, ◌*◌, ◌<◌, List, [], ◌∷◌, ◌++◌, length, refl, sym, ap, subst, ◌∙◌, append_assoc, arith, inl, inr}
use Rattle.std.proofs.lemmas.List.{append-nil, length-append}
use Rattle.cbor_model.specs.Head.{head}
use Rattle.cbor_model.specs.Raw as raw
use Rattle.cbor_model.specs.Raw.{Raw, Raws, no_raws, RawPairs, no_raw_pairs, raw_pair, definite, indefinite, count, pair_count, IsWellFormed, AreWellFormed, ArePairsWellFormed}
use Rattle.cbor_model.specs.Spelling.{spell, spell_all, spell_pairs, break}
use Rattle.cbor_model.specs.Wanted.{Opening, array_head, map_head, tag_head, indefinite_array, indefinite_map, IsWanted, at_first, inside}
use Rattle.cbor_model.proofs.refusals.Wanted.{nulls, count-nulls, nulls_fit, all_of, count-all_of, all_of_fit, spell-all_of, IsFrame, frame}
use Rattle.cbor_strict.specs.Departure.{head_end, length_end}

-- The item t, which holds no others, stands at k in the item that stands at this offset.
abbrev mutual
  pub StandsIn : ℕ → Raw → ℕ → Raw → Type 0
  StandsIn at (raw.array l rs) k t = StandsInAll (length_end at 4 l (count rs)) rs k t
  StandsIn at (raw.map l ps) k t = StandsInPairs (length_end at 5 l (pair_count ps)) ps k t
  StandsIn at (raw.tag w n r) k t = StandsIn (head_end at 6 w n) r k t
  StandsIn at r k t = (at ≡ k) × (r ≡ t)

  pub StandsInAll : ℕ → Raws → ℕ → Raw → Type 0
  StandsInAll at no_raws k t = ⊥
  StandsInAll at (raw.raw r rs) k t = StandsIn at r k t ⊎ StandsInAll (at + length (spell r)) rs k t

  pub StandsInPairs : ℕ → RawPairs → ℕ → Raw → Type 0
  StandsInPairs at no_raw_pairs k t = ⊥
  StandsInPairs at (raw_pair key v ps) k t =
      StandsIn at key k t
      ⊎ (StandsIn (at + length (spell key)) v k t
      ⊎ StandsInPairs (at + length (spell key) + length (spell v)) ps k t)

-- ---- items in even number, as pairs

abbrev pairs_of : Raws → RawPairs
pairs_of no_raws = no_raw_pairs
pairs_of (raw.raw k no_raws) = no_raw_pairs
pairs_of (raw.raw k (raw.raw v rs)) = raw_pair k v (pairs_of rs)

record ArePaired (n : ℕ) (rs : Raws) : Type 0 where
  fits : ArePairsWellFormed (pairs_of rs)
  many : pair_count (pairs_of rs) ≡ n
  spelled : spell_pairs (pairs_of rs) ≡ spell_all rs

paired : (n : ℕ) (rs : Raws) → AreWellFormed rs → count rs ≡ 2 * n → ArePaired n rs
unfolding spell
paired zero no_raws fits many = record { fits = tt; many = refl; spelled = refl }
paired zero (raw.raw k rs) fits many = absurd (omega arith)
paired (suc n) no_raws fits many = absurd (omega arith)
paired (suc n) (raw.raw k no_raws) fits many = absurd (omega arith)
paired (suc n) (raw.raw k (raw.raw v rs)) fits many =
    let others = paired n rs fits.1.1 (omega (arith, many)) in
    record {
      fits = (fits.0, fits.1.0, others.fits);
      many = ap suc others.many;
      spelled = ap (λ (t : List ℕ). spell k ++ (spell v ++ t)) others.spelled;
    }

-- ---- after an opening and whole items

-- An item that goes on from these bytes, with t at k of them.
pub record Holds (x : List ℕ) (k : ℕ) (t : Raw) : Type 0 where
  pub item : Raw
  pub fits : IsWellFormed item
  pub more : List ℕ
  pub spelled : spell item ≡ x ++ more
  pub stands : (at : ℕ) → StandsIn at item (at + k) t

-- at an equal offset
at_same : (at : ℕ) (r : Raw) (k k' : ℕ) (t : Raw) → StandsIn at r k t → k ≡ k' → StandsIn at r k' t
at_same at r k k' t stands same = subst (λ (n : ℕ). StandsIn at r n t) same stands

module _ (r : Raw) (k : ℕ) (t : Raw) (stands : (at : ℕ) → StandsIn at r (at + k) t) where
  in_all : (at : ℕ) (items others : Raws) → StandsInAll at (all_of items (raw.raw r others)) (at + length (spell_all items) + k) t
  unfolding spell
  in_all at no_raws others = inl (at_same at r (at + k) _ t (stands at) (omega arith))
  in_all at (raw.raw i is) others =
      let there = at + length (spell i) in
      let same : there + length (spell_all is) + k ≡ at + length (spell i ++ spell_all is) + k = omega (arith, length-append (spell i) (spell_all is)) in
      inr (subst (λ (n : ℕ). StandsInAll there (all_of is (raw.raw r others)) n t) same (in_all there is others))

  in_pairs : (at n : ℕ) (items others : Raws) → count (all_of items (raw.raw r others)) ≡ 2 * n
      → StandsInPairs at (pairs_of (all_of items (raw.raw r others))) (at + length (spell_all items) + k) t
  unfolding spell
  in_pairs at zero no_raws others many = absurd (omega (arith, many))
  in_pairs at zero (raw.raw i is) others many = absurd (omega (arith, many))
  in_pairs at (suc n) no_raws no_raws many = absurd (omega (arith, many))
  in_pairs at (suc n) no_raws (raw.raw v others) many = inl (at_same at r (at + k) _ t (stands at) (omega arith))
  in_pairs at (suc n) (raw.raw i no_raws) others many =
      let there = at + length (spell i) in
      inr (inl (at_same there r (there + k) _ t (stands there) (omega (arith, length-append (spell i) []))))
  in_pairs at (suc n) (raw.raw i (raw.raw j is)) others many =
      let there = at + length (spell i) + length (spell j) in
      let same : there + length (spell_all is) + k ≡ at + length (spell i ++ (spell j ++ spell_all is)) + k = omega (arith, length-append (spell i) (spell j ++ spell_all is), length-append (spell j) (spell_all is)) in
      inr (inr (subst (λ (n : ℕ). StandsInPairs there (pairs_of (all_of is (raw.raw r others))) n t) same (in_pairs there n is others (omega (arith, many)))))

-- five parts of a spelling
regroup : (a b c d e : List ℕ) → a ++ ((b ++ ((c ++ d) ++ e))) ≡ ((a ++ b) ++ c) ++ (d ++ e)
regroup a b c d e = simp append_assoc

-- what stands after the opening
behind_items : (front x more : List ℕ) (items others : Raws) (r : Raw) (end : List ℕ) → spell r ≡ x ++ more
    → front ++ (spell_all (all_of items (raw.raw r others)) ++ end) ≡ ((front ++ spell_all items) ++ x) ++ (more ++ (spell_all others ++ end))
unfolding spell
behind_items front x more items others r end is =
    ap (λ (t : List ℕ). front ++ (t ++ end)) (spell-all_of items (raw.raw r others))
    ∙ ap (λ (t : List ℕ). front ++ ((spell_all items ++ (t ++ spell_all others)) ++ end)) is
    ∙ simp append_assoc

-- where the frame ends
frame_end : (at k : ℕ) (front items : List ℕ) → at + length front + length items + k ≡ at + (length (front ++ items) + k)
frame_end at k front items = omega (arith, length-append front items)

holds_behind : (o : Opening) (items : Raws) (x : List ℕ) (k : ℕ) (t : Raw) → IsFrame o items → Holds x k t → Holds (frame o items ++ x) (length (frame o items) + k) t
unfolding spell
holds_behind (array_head w n) items x k t f on =
    let place : count items < n = f.place in
    let r = on.item in
    let others = nulls (n - suc (count items)) in
    let rs = all_of items (raw.raw r others) in
    let many : count rs ≡ n = omega (arith, count-all_of items (raw.raw r others), count-nulls (n - suc (count items)), place) in
    record {
      item = raw.array (definite w) rs;
      fits = (omega (arith, many, f.opens), all_of_fit items (raw.raw r others) f.fits (on.fits, nulls_fit (n - suc (count items))));
      more = on.more ++ (spell_all others ++ []);
      spelled = ap (λ (k : ℕ). head 4 w k ++ spell_all rs) many ∙ ap (λ (t : List ℕ). head 4 w n ++ t) (sym (append-nil (spell_all rs))) ∙ behind_items (head 4 w n) x on.more items others r [] on.spelled;
      stands = λ at.
          subst (λ (m : ℕ). StandsInAll (head_end at 4 w m) rs (at + (length (frame (array_head w n) items) + k)) t) (sym many)
          (subst (λ (m : ℕ). StandsInAll (head_end at 4 w n) rs m t) (frame_end at k (head 4 w n) (spell_all items)) (in_all r k t on.stands (head_end at 4 w n) items others));
    }
holds_behind (map_head w n) items x k t f on =
    let place : count items < 2 * n = f.place in
    let r = on.item in
    let others = nulls (2 * n - suc (count items)) in
    let rs = all_of items (raw.raw r others) in
    let many : count rs ≡ 2 * n = omega (arith, count-all_of items (raw.raw r others), count-nulls (2 * n - suc (count items)), place) in
    let ps = paired n rs (all_of_fit items (raw.raw r others) f.fits (on.fits, nulls_fit (2 * n - suc (count items)))) many in
    record {
      item = raw.map (definite w) (pairs_of rs);
      fits = (omega (arith, ps.many, f.opens), ps.fits);
      more = on.more ++ (spell_all others ++ []);
      spelled = ap (λ (k : ℕ). head 5 w k ++ spell_pairs (pairs_of rs)) ps.many ∙ ap (λ (t : List ℕ). head 5 w n ++ t) (ps.spelled ∙ sym (append-nil (spell_all rs))) ∙ behind_items (head 5 w n) x on.more items others r [] on.spelled;
      stands = λ at.
          subst (λ (m : ℕ). StandsInPairs (head_end at 5 w m) (pairs_of rs) (at + (length (frame (map_head w n) items) + k)) t) (sym ps.many)
          (subst (λ (m : ℕ). StandsInPairs (head_end at 5 w n) (pairs_of rs) m t) (frame_end at k (head 5 w n) (spell_all items)) (in_pairs r k t on.stands (head_end at 5 w n) n items others many));
    }
holds_behind (tag_head w n) no_raws x k t f on = record {
  item = raw.tag w n on.item;
  fits = (f.opens, on.fits);
  more = on.more;
  spelled = ap (λ (t : List ℕ). head 6 w n ++ t) on.spelled ∙ simp append_assoc;
  stands = λ at. at_same (head_end at 6 w n) on.item (head_end at 6 w n + k) _ t (on.stands (head_end at 6 w n)) (omega (arith, length-append (head 6 w n) []));
}
holds_behind (tag_head w n) (raw.raw i is) x k t f on = absurd (omega (arith, f.place))
holds_behind indefinite_array items x k t f on =
    let r = on.item in
    let rs = all_of items (raw.raw r no_raws) in
    record {
      item = raw.array indefinite rs;
      fits = (tt, all_of_fit items (raw.raw r no_raws) f.fits (on.fits, tt));
      more = on.more ++ break;
      spelled = behind_items (0x9f ∷ []) x on.more items no_raws r break on.spelled;
      stands = λ at.
          let same : suc at + length (spell_all items) + k ≡ at + (length (0x9f ∷ spell_all items) + k) = omega arith in
          subst (λ (m : ℕ). StandsInAll (suc at) rs m t) same (in_all r k t on.stands (suc at) items no_raws);
    }
holds_behind indefinite_map items x k t f on =
    let r = on.item in
    let n = suc (count items) in
    let others = nulls n in
    let rs = all_of items (raw.raw r others) in
    let many : count rs ≡ 2 * n = omega (arith, count-all_of items (raw.raw r others), count-nulls n) in
    let ps = paired n rs (all_of_fit items (raw.raw r others) f.fits (on.fits, nulls_fit n)) many in
    record {
      item = raw.map indefinite (pairs_of rs);
      fits = (tt, ps.fits);
      more = on.more ++ (spell_all others ++ break);
      spelled = ap (λ (t : List ℕ). 0xbf ∷ (t ++ break)) ps.spelled ∙ behind_items (0xbf ∷ []) x on.more items others r break on.spelled;
      stands = λ at.
          let same : suc at + length (spell_all items) + k ≡ at + (length (0xbf ∷ spell_all items) + k) = omega arith in
          subst (λ (m : ℕ). StandsInPairs (suc at) (pairs_of rs) m t) same (in_pairs r k t on.stands (suc at) n items others many);
    }

-- ---- where an item is wanted

pub holds_wanted : (levels : ℕ) (p x : List ℕ) (k : ℕ) (t : Raw) → IsWanted levels p → Holds x k t → Holds (p ++ x) (length p + k) t
holds_wanted levels p x k t at_first on = let same : k ≡ 0 + k = omega arith in subst (λ (n : ℕ). Holds x n t) same on
holds_wanted levels p x k t (inside j before o items wanted opens fits place) on =
    let all = holds_wanted j before (frame o items ++ x) (length (frame o items) + k) t wanted (holds_behind o items x k t (record { opens = opens; fits = fits; place = place }) on) in
    let same : length before + (length (frame o items) + k) ≡ length (before ++ frame o items) + k = omega (arith, length-append before (frame o items)) in
    subst (λ (n : ℕ). Holds ((before ++ frame o items) ++ x) n t) same
    (subst (λ (b : List ℕ). Holds b (length before + (length (frame o items) + k)) t) (sym (append_assoc before (frame o items) x)) all)
