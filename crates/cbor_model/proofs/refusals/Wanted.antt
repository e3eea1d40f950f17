-- Where an item is wanted, one comes: unfinished items can be ended.
use Rattle.std.proofs.Common.{◌≡◌, ℕ, zero, suc, ◌+◌, ◌-◌, ◌*◌, ◌<◌, List, [], ◌∷◌, ◌++◌}
use Rattle.std.proofs.Common.{refl, sym, ap, subst, ◌∙◌, append_assoc, arith}
use Rattle.std.proofs.lemmas.List.{append-nil}
use Rattle.cbor_model.specs.Head.{head}
use Rattle.cbor_model.specs.Raw as raw
use Rattle.cbor_model.specs.Raw.{Raw, Raws, no_raws, RawPairs, no_raw_pairs, raw_pair, definite}
use Rattle.cbor_model.specs.Raw.{indefinite, null_item, count, pair_count, IsWellFormed}
use Rattle.cbor_model.specs.Raw.{AreWellFormed, ArePairsWellFormed}
use Rattle.cbor_model.specs.Spelling.{spell, spell_all, spell_pairs, break}
use Rattle.cbor_model.specs.Wanted.{Opening, array_head, map_head, tag_head, indefinite_array}
use Rattle.cbor_model.specs.Wanted.{indefinite_map, opening, IsOpening, HasPlace, IsWanted}
use Rattle.cbor_model.specs.Wanted.{at_first, inside}
use Rattle.cbor_model.specs.Allowed.{IsProperBeginning}

-- ---- lists of items

abbrev pub null : Raw
null = raw.simple null_item

abbrev pub nulls : ℕ → Raws
nulls zero = no_raws
nulls (suc n) = raw.raw null (nulls n)

abbrev pub all_of : Raws → Raws → Raws
all_of no_raws others = others
all_of (raw.raw r rs) others = raw.raw r (all_of rs others)

pub count-nulls : (n : ℕ) → count (nulls n) ≡ n
count-nulls zero = refl
count-nulls (suc n) = ap suc (count-nulls n)

pub nulls_fit : (n : ℕ) → AreWellFormed (nulls n)
nulls_fit zero = tt
nulls_fit (suc n) = (tt, nulls_fit n)

pub count-all_of : (rs others : Raws) → count (all_of rs others) ≡ count rs + count others
count-all_of no_raws others = omega arith
count-all_of (raw.raw r rs) others = omega (arith, count-all_of rs others)

pub all_of_fit : (rs others : Raws) → AreWellFormed rs → AreWellFormed others → AreWellFormed (all_of rs others)
all_of_fit no_raws others fits more = more
all_of_fit (raw.raw r rs) others fits more = (fits.0, all_of_fit rs others fits.1 more)

pub spell-all_of : (rs others : Raws) → spell_all (all_of rs others) ≡ spell_all rs ++ spell_all others
unfolding spell
spell-all_of no_raws others = refl
spell-all_of (raw.raw r rs) others =
    ap (λ (t : List ℕ). spell r ++ t) (spell-all_of rs others) ∙ sym (append_assoc (spell r) (spell_all rs) (spell_all others))

-- the keys and values of pairs, in their order
abbrev pub flat : RawPairs → Raws
flat no_raw_pairs = no_raws
flat (raw_pair k v ps) = raw.raw k (raw.raw v (flat ps))

pub count-flat : (ps : RawPairs) → count (flat ps) ≡ 2 * pair_count ps
count-flat no_raw_pairs = refl
count-flat (raw_pair k v ps) = omega (arith, count-flat ps)

pub flat_fit : (ps : RawPairs) → ArePairsWellFormed ps → AreWellFormed (flat ps)
flat_fit no_raw_pairs fits = tt
flat_fit (raw_pair k v ps) fits = (fits.0, (fits.1, flat_fit ps fits.2))

pub spell-flat : (ps : RawPairs) → spell_all (flat ps) ≡ spell_pairs ps
unfolding spell
spell-flat no_raw_pairs = refl
spell-flat (raw_pair k v ps) = ap (λ (t : List ℕ). spell k ++ (spell v ++ t)) (spell-flat ps)

-- items in even number, as pairs
pub record ArePaired (n : ℕ) (rs : Raws) : Type 0 where
  pub pairs : RawPairs
  pub fits : ArePairsWellFormed pairs
  pub many : pair_count pairs ≡ n
  pub spelled : spell_pairs pairs ≡ spell_all rs

pub paired : (n : ℕ) (rs : Raws) → AreWellFormed rs → count rs ≡ 2 * n → ArePaired n rs
unfolding spell
paired zero no_raws fits many = record { pairs = no_raw_pairs; fits = tt; many = refl; spelled = refl }
paired zero (raw.raw k rs) fits many = absurd (omega arith)
paired (suc n) no_raws fits many = absurd (omega arith)
paired (suc n) (raw.raw k no_raws) fits many = absurd (omega arith)
paired (suc n) (raw.raw k (raw.raw v rs)) fits many =
    let others = paired n rs fits.1.1 (omega (arith, many)) in
    record {
      pairs = raw_pair k v others.pairs;
      fits = (fits.0, fits.1.0, others.fits);
      many = ap suc others.many;
      spelled = ap (λ (t : List ℕ). spell k ++ (spell v ++ t)) others.spelled;
    }

-- ---- one opening

-- an opening, and whole items that leave a place
pub record IsFrame (o : Opening) (items : Raws) : Type 0 where
  pub opens : IsOpening o
  pub fits : AreWellFormed items
  pub place : HasPlace o (count items)

abbrev pub frame : Opening → Raws → List ℕ
frame o items = opening o ++ spell_all items

-- an item that goes on from these bytes
pub record GoesOn (front : List ℕ) : Type 0 where
  pub item : Raw
  pub fits : IsWellFormed item
  pub more : List ℕ
  pub spelled : spell item ≡ front ++ more

-- four parts of a spelling
regroup : (a b c d : List ℕ) → a ++ (b ++ (c ++ d)) ≡ ((a ++ b) ++ c) ++ d
regroup a b c d = simp append_assoc

-- an item after the frame, and others after it
behind_items : (front : List ℕ) (items others : Raws) (r : Raw) (end : List ℕ)
    → front ++ (spell_all (all_of items (raw.raw r others)) ++ end) ≡ ((front ++ spell_all items) ++ spell r) ++ (spell_all others ++ end)
unfolding spell
behind_items front items others r end =
    ap (λ (t : List ℕ). front ++ (t ++ end)) (spell-all_of items (raw.raw r others)) ∙ simp append_assoc

pub goes_on : (o : Opening) (items : Raws) (r : Raw) → IsFrame o items → IsWellFormed r → GoesOn (frame o items ++ spell r)
unfolding spell
goes_on (array_head w n) items r f fits =
    let place : count items < n = f.place in
    let others = nulls (n - suc (count items)) in
    let rs = all_of items (raw.raw r others) in
    let many : count rs ≡ n = omega (arith, count-all_of items (raw.raw r others), count-nulls (n - suc (count items)), place) in
    record {
      item = raw.array (definite w) rs;
      fits = (omega (arith, many, f.opens), all_of_fit items (raw.raw r others) f.fits (fits, nulls_fit (n - suc (count items))));
      more = spell_all others ++ [];
      spelled = ap (λ (k : ℕ). head 4 w k ++ spell_all rs) many ∙ ap (λ (t : List ℕ). head 4 w n ++ t) (sym (append-nil (spell_all rs))) ∙ behind_items (head 4 w n) items others r [];
    }
goes_on (map_head w n) items r f fits =
    let place : count items < 2 * n = f.place in
    let others = nulls (2 * n - suc (count items)) in
    let rs = all_of items (raw.raw r others) in
    let many : count rs ≡ 2 * n = omega (arith, count-all_of items (raw.raw r others), count-nulls (2 * n - suc (count items)), place) in
    let ps = paired n rs (all_of_fit items (raw.raw r others) f.fits (fits, nulls_fit (2 * n - suc (count items)))) many in
    record {
      item = raw.map (definite w) ps.pairs;
      fits = (omega (arith, ps.many, f.opens), ps.fits);
      more = spell_all others ++ [];
      spelled = ap (λ (k : ℕ). head 5 w k ++ spell_pairs ps.pairs) ps.many ∙ ap (λ (t : List ℕ). head 5 w n ++ t) (ps.spelled ∙ sym (append-nil (spell_all rs))) ∙ behind_items (head 5 w n) items others r [];
    }
goes_on (tag_head w n) no_raws r f fits = record {
  item = raw.tag w n r;
  fits = (f.opens, fits);
  more = [];
  spelled = ap (λ (t : List ℕ). head 6 w n ++ t) (sym (append-nil (spell r))) ∙ regroup (head 6 w n) [] (spell r) [];
}
goes_on (tag_head w n) (raw.raw i is) r f fits = absurd (omega (arith, f.place))
goes_on indefinite_array items r f fits =
    let rs = all_of items (raw.raw r no_raws) in
    record {
      item = raw.array indefinite rs;
      fits = (tt, all_of_fit items (raw.raw r no_raws) f.fits (fits, tt));
      more = break;
      spelled = behind_items (0x9f ∷ []) items no_raws r break;
    }
goes_on indefinite_map items r f fits =
    let n = suc (count items) in
    let others = nulls n in
    let rs = all_of items (raw.raw r others) in
    let many : count rs ≡ 2 * n = omega (arith, count-all_of items (raw.raw r others), count-nulls n) in
    let ps = paired n rs (all_of_fit items (raw.raw r others) f.fits (fits, nulls_fit n)) many in
    record {
      item = raw.map indefinite ps.pairs;
      fits = (tt, ps.fits);
      more = spell_all others ++ break;
      spelled = ap (λ (t : List ℕ). 0xbf ∷ (t ++ break)) ps.spelled ∙ behind_items (0xbf ∷ []) items others r break;
    }

-- what begins an item begins one after a frame
pub beginning_behind : (o : Opening) (items : Raws) (bs : List ℕ) → IsFrame o items → IsProperBeginning bs → IsProperBeginning (frame o items ++ bs)
beginning_behind o items bs f b =
    let on = goes_on o items b.begins.item f b.begins.fits in
    record {
      begins = record {
        item = on.item;
        fits = on.fits;
        more = b.begins.more ++ on.more;
        whole = on.spelled ∙ ap (λ (t : List ℕ). (frame o items ++ t) ++ on.more) b.begins.whole ∙ simp append_assoc;
      };
      more = λ none. b.more (front_empty b.begins.more on.more none);
    }
  where
    front_empty : (a c : List ℕ) → a ++ c ≡ [] → a ≡ []
    front_empty [] c e = refl
    front_empty (x ∷ a) c e = absurd cc

-- ---- paths

pub wanted_behind : (o : Opening) (items : Raws) (levels : ℕ) (p : List ℕ) → IsFrame o items → IsWanted levels p → IsWanted (suc levels) (frame o items ++ p)
wanted_behind o items levels p f at_first =
    subst (IsWanted 1) (sym (append-nil (frame o items))) (inside 0 [] o items at_first f.opens f.fits f.place)
wanted_behind o items levels p f (inside k before o' items' wanted opens fits place) =
    let q = frame o items ++ before in
    subst (IsWanted (suc (suc k))) (append_assoc (frame o items) before (frame o' items'))
    (inside (suc k) q o' items' (wanted_behind o items k before f wanted) opens fits place)

-- where an item is wanted, one that begins there begins one of the whole
pub beginning_wanted : (levels : ℕ) (p bs : List ℕ) → IsWanted levels p → IsProperBeginning bs → IsProperBeginning (p ++ bs)
beginning_wanted levels p bs at_first b = b
beginning_wanted levels p bs (inside k before o items wanted opens fits place) b =
    subst IsProperBeginning (sym (append_assoc before (frame o items) bs))
    (beginning_wanted k before (frame o items ++ bs) wanted (beginning_behind o items bs (record { opens = opens; fits = fits; place = place }) b))

-- where an item is wanted, what goes on from these bytes goes on in the whole
pub on_behind : (o : Opening) (items : Raws) (x : List ℕ) → IsFrame o items → GoesOn x → GoesOn (frame o items ++ x)
on_behind o items x f on =
    let all = goes_on o items on.item f on.fits in
    record {
      item = all.item;
      fits = all.fits;
      more = on.more ++ all.more;
      spelled = all.spelled ∙ ap (λ (t : List ℕ). (frame o items ++ t) ++ all.more) on.spelled ∙ parts (frame o items) x on.more all.more;
    }
  where
    parts : (a b c d : List ℕ) → (a ++ (b ++ c)) ++ d ≡ (a ++ b) ++ (c ++ d)
    parts a b c d = simp append_assoc

pub on_wanted : (levels : ℕ) (p x : List ℕ) → IsWanted levels p → GoesOn x → GoesOn (p ++ x)
on_wanted levels p x at_first on = on
on_wanted levels p x (inside k before o items wanted opens fits place) on =
    subst GoesOn (sym (append_assoc before (frame o items) x))
    (on_wanted k before (frame o items ++ x) wanted (on_behind o items x (record { opens = opens; fits = fits; place = place }) on))

pub on_item : (r : Raw) → IsWellFormed r → GoesOn (spell r)
on_item r fits = record { item = r; fits = fits; more = []; spelled = sym (append-nil (spell r)) }
