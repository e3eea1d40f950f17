-- The bytes that a walk went over begin a spelling.
use Rattle.std.proofs.Common.{◌≡◌, ℕ, zero, suc, ◌+◌, ◌-◌, ◌*◌, ◌/◌, ◌%◌, ◌<◌, Bool, true, false, cond, ltb, eqb, List, [], ◌∷◌, ◌++◌, length, take, drop, Ok, Err, Less, Equal, Greater, Ordering, refl, sym, ap, ap₂, subst, ◌∙◌, append_assoc, arith}
use Rattle.std.specs.Int.{Width, w16, w32, w64, byte_len, to_be_bytes, from_be_bytes}
use Rattle.std.proofs.lemmas.Bool.{eqb-true}
use Rattle.std.proofs.lemmas.List.{append-nil}
use Rattle.cbor_model.specs.Head.{HeadWidth, no_bytes, limit, head}
use Rattle.cbor_model.specs.Major.{major_of}
use Rattle.cbor_model.specs.Raw as raw
use Rattle.cbor_model.specs.Raw.{definite, indefinite, Raw, Raws, no_raws, RawPairs, no_raw_pairs, raw_pair, Simple, false_item, true_item, null_item, undefined_item, FloatWidth, half, single, double, float_limit, AreBytes, count, pair_count, IsWellFormed, AreWellFormed, ArePairsWellFormed}
use Rattle.cbor_model.specs.Spelling.{spell, spell_all, spell_pairs, break, simple_byte, float_spelling, BeginsSpelling}
use Rattle.cbor_model.specs.Order.{lex}
use Rattle.cbor_model.specs.Value.{by_order}
use Rattle.cbor_model.specs.Reader.{Reads, number_behind, width_of}
use Rattle.cbor_strict.specs.Departure.{floor}
use Rattle.cbor_strict.specs.Walk.{Walk, passed, departed, stopped, and_then, past, on_shortest, with_shortest, with_count, simple_walk, all_walk, pairs_walk, content_walk, walk}
use Rattle.cbor_model.proofs.reader.ReaderSteps.{AreBytes-rest, bytes_found, IsWide, wide16, wide32, wide64, number_behind_found, first_is}
use Rattle.cbor_strict.proofs.Copied.{two_parts, whole_head}
use Rattle.cbor_model.proofs.reader.Majors.{each_major}

-- ---- spellings of some kind

-- The walk departed within one: its front is here, and the rest of so many bytes after it.
record Shown (S : List ℕ → Type 0) (bs : List ℕ) (left : ℕ) : Type 0 where
  front : List ℕ
  rest : List ℕ
  more : List ℕ
  is : bs ≡ front ++ rest
  long : length rest ≡ left
  spells : S (front ++ more)

-- a whole one was passed
record Past (S : List ℕ → Type 0) (bs rest : List ℕ) : Type 0 where
  one : List ℕ
  is : bs ≡ one ++ rest
  spells : S one

abbrev Spelled : (List ℕ → Type 0) → List ℕ → Walk → Type 0
Spelled S bs (passed rest) = Past S bs rest
Spelled S bs (departed left) = Shown S bs left
Spelled S bs stopped = Unit {0}

AreBytes-right : (a b : List ℕ) → AreBytes (a ++ b) → AreBytes b
AreBytes-right [] b fits = fits
AreBytes-right (x ∷ a) b fits = AreBytes-right a b (AreBytes-rest x (a ++ b) fits)

-- what goes on after a whole one
behind_one : (T U : List ℕ → Type 0) (bs s mid : List ℕ) (u : Walk) → bs ≡ s ++ mid → Spelled T mid u → ((t : List ℕ) → T t → U (s ++ t)) → Spelled U bs u
behind_one T U bs s mid (passed rest) is got join = record { one = s ++ got.one; is = two_parts bs s mid got.one rest is got.is; spells = join got.one got.spells }
behind_one T U bs s mid (departed left) is got join = record {
  front = s ++ got.front;
  rest = got.rest;
  more = got.more;
  is = two_parts bs s mid got.front got.rest is got.is;
  long = got.long;
  spells = subst U (sym (append_assoc s got.front got.more)) (join (got.front ++ got.more) got.spells);
}
behind_one T U bs s mid stopped is got join = tt

-- one, and what goes on after it, for which there is some ending
then_spelled : (S T U : List ℕ → Type 0) (bs : List ℕ) (w : Walk) (go : List ℕ → Walk) → AreBytes bs → Spelled S bs w → (t : List ℕ) → T t → ((mid : List ℕ) → AreBytes mid → Spelled T mid (go mid)) → ((s t : List ℕ) → S s → T t → U (s ++ t)) → Spelled U bs (and_then w go)
then_spelled S T U bs (passed mid) go fits got t ending each join =
    behind_one T U bs got.one mid (go mid) got.is (each mid (AreBytes-right got.one mid (subst AreBytes got.is fits))) (λ t is. join got.one t got.spells is)
then_spelled S T U bs (departed left) go fits got t ending each join = record {
  front = got.front;
  rest = got.rest;
  more = got.more ++ t;
  is = got.is;
  long = got.long;
  spells = subst U (append_assoc got.front got.more t) (join (got.front ++ got.more) t got.spells ending);
}
then_spelled S T U bs stopped go fits got t ending each join = tt

-- ---- items

record IsItem (s : List ℕ) : Type 0 where
  item : Raw
  fits : IsWellFormed item
  is : spell item ≡ s

record AreItems (n : ℕ) (s : List ℕ) : Type 0 where
  items : Raws
  many : count items ≡ n
  fits : AreWellFormed items
  is : spell_all items ≡ s

record ArePairs (n : ℕ) (s : List ℕ) : Type 0 where
  pairs : RawPairs
  many : pair_count pairs ≡ n
  fits : ArePairsWellFormed pairs
  is : spell_pairs pairs ≡ s

-- a value, and n pairs
record IsValue (n : ℕ) (s : List ℕ) : Type 0 where
  value : List ℕ
  others : List ℕ
  one : IsItem value
  pairs : ArePairs n others
  is : s ≡ value ++ others

abbrev IsNothing : List ℕ → Type 0
IsNothing s = s ≡ []

abbrev IsContent : ℕ → List ℕ → Type 0
IsContent n s = (length s ≡ n) × AreBytes s

item_joined : (n : ℕ) (s t : List ℕ) → IsItem s → AreItems n t → AreItems (suc n) (s ++ t)
unfolding spell
item_joined n s t one all = record { items = raw.raw one.item all.items; many = ap suc all.many; fits = (one.fits, all.fits); is = ap₂ (λ (a b : List ℕ). a ++ b) one.is all.is }

value_joined : (n : ℕ) (s t : List ℕ) → IsItem s → ArePairs n t → IsValue n (s ++ t)
value_joined n s t one all = record { value = s; others = t; one = one; pairs = all; is = refl }

pair_joined : (n : ℕ) (s t : List ℕ) → IsItem s → IsValue n t → ArePairs (suc n) (s ++ t)
unfolding spell
pair_joined n s t key v = record {
  pairs = raw_pair key.item v.one.item v.pairs.pairs;
  many = ap suc v.pairs.many;
  fits = (key.fits, v.one.fits, v.pairs.fits);
  is = ap₂ (λ (a b : List ℕ). a ++ b) key.is (ap₂ (λ (a b : List ℕ). a ++ b) v.one.is v.pairs.is ∙ sym v.is);
}

-- ---- some of each kind

zero_item : IsItem (0x00 ∷ [])
unfolding spell
zero_item = record { item = raw.unsigned no_bytes 0; fits = omega arith; is = refl }

pub zeros : ℕ → Raws
zeros zero = no_raws
zeros (suc n) = raw.raw (raw.unsigned no_bytes 0) (zeros n)

pub zero_pairs : ℕ → RawPairs
zero_pairs zero = no_raw_pairs
zero_pairs (suc n) = raw_pair (raw.unsigned no_bytes 0) (raw.unsigned no_bytes 0) (zero_pairs n)

pub zeros_count : (n : ℕ) → count (zeros n) ≡ n
unfolding zeros
zeros_count zero = refl
zeros_count (suc n) = ap suc (zeros_count n)

pub zeros_fit : (n : ℕ) → AreWellFormed (zeros n)
unfolding zeros
zeros_fit zero = tt
zeros_fit (suc n) = (omega arith, zeros_fit n)

pub zero_pairs_count : (n : ℕ) → pair_count (zero_pairs n) ≡ n
unfolding zero_pairs
zero_pairs_count zero = refl
zero_pairs_count (suc n) = ap suc (zero_pairs_count n)

pub zero_pairs_fit : (n : ℕ) → ArePairsWellFormed (zero_pairs n)
unfolding zero_pairs
zero_pairs_fit zero = tt
zero_pairs_fit (suc n) = (omega arith, omega arith, zero_pairs_fit n)

some_items : (n : ℕ) → AreItems n (spell_all (zeros n))
some_items n = record { items = zeros n; many = zeros_count n; fits = zeros_fit n; is = refl }

some_pairs : (n : ℕ) → ArePairs n (spell_pairs (zero_pairs n))
some_pairs n = record { pairs = zero_pairs n; many = zero_pairs_count n; fits = zero_pairs_fit n; is = refl }

zero_bytes : ℕ → List ℕ
zero_bytes zero = []
zero_bytes (suc n) = 0 ∷ zero_bytes n

some_content : (n : ℕ) → IsContent n (zero_bytes n)
unfolding zero_bytes
some_content zero = (refl, λ i. omega arith)
some_content (suc n) =
    let others = some_content n in
    (ap suc others.0, zero_first n others.1)
  where
    zero_first : (n : ℕ) → AreBytes (zero_bytes n) → AreBytes (0 ∷ zero_bytes n)
    zero_first n fits zero = omega arith
    zero_first n fits (suc i) = fits i

-- ---- heads

module _ (T : ℕ → List ℕ → Type 0) (major : ℕ) (go : ℕ → List ℕ → Walk)
    (some : (n : ℕ) → (t : List ℕ) × T n t)
    (each : (n : ℕ) (bs : List ℕ) → AreBytes bs → Spelled (T n) bs (go n bs))
    (join : (w : HeadWidth) (n : ℕ) (t : List ℕ) → n < limit w → T n t → IsItem (head major w n ++ t))
  where
    shortest_spelled : (low : ℕ) (bs : List ℕ) → AreBytes bs → Spelled IsItem ((32 * major + low) ∷ bs) (with_shortest go low bs)
    shortest_spelled low bs fits = by_read (number_behind low bs) refl
      where
        by_test : (n : ℕ) (rest front : List ℕ) (long : Bool) → AreBytes rest → n < limit (width_of low) → front ≡ head major (width_of low) n ++ rest → Spelled IsItem front (cond long (departed (length rest)) (go n rest))
        by_test n rest front true fits small is = record {
          front = head major (width_of low) n;
          rest = rest;
          more = (some n).0;
          is = is;
          long = refl;
          spells = join (width_of low) n (some n).0 small (some n).1;
        }
        by_test n rest front false fits small is =
            behind_one (T n) IsItem front (head major (width_of low) n) rest (go n rest) is (each n rest fits) (λ t has. join (width_of low) n t small has)

        by_read : (r : Reads ℕ) → number_behind low bs ≡ r → Spelled IsItem ((32 * major + low) ∷ bs) (on_shortest go (width_of low) r)
        by_read (Ok x) is =
            let got = number_behind_found low bs x fits is in
            by_test x.0 x.1 ((32 * major + low) ∷ bs) (ltb x.0 (floor (width_of low))) got.rest_fits got.fits (whole_head major low x.0 (width_of low) bs x.1 got.is_low got.parts)
        by_read (Err d) is = tt

    count_spelled : IsItem ((32 * major + 31) ∷ break) → (low : ℕ) (bs : List ℕ) → AreBytes bs → Spelled IsItem ((32 * major + low) ∷ bs) (with_count go low bs)
    count_spelled opened low bs fits = by_test (eqb low 31) refl
      where
        by_test : (b : Bool) → eqb low 31 ≡ b → Spelled IsItem ((32 * major + low) ∷ bs) (cond b (departed (length bs)) (with_shortest go low bs))
        by_test true is = record {
          front = (32 * major + low) ∷ [];
          rest = bs;
          more = break;
          is = refl;
          long = refl;
          spells = subst (λ (low : ℕ). IsItem ((32 * major + low) ∷ break)) (sym (eqb-true low 31 is)) opened;
        }
        by_test false is = shortest_spelled low bs fits

-- ---- what stands after them

nothing_spelled : (n : ℕ) (bs : List ℕ) → AreBytes bs → Spelled IsNothing bs (passed bs)
nothing_spelled n bs fits = record { one = []; is = refl; spells = refl }

past_spelled : (n : ℕ) (bs : List ℕ) → AreBytes bs → Spelled (IsContent n) bs (past n bs)
past_spelled n bs fits = by_test (ltb (length bs) n) refl
  where
    by_test : (b : Bool) → ltb (length bs) n ≡ b → Spelled (IsContent n) bs (cond b stopped (passed (drop n bs)))
    by_test true is = tt
    by_test false is =
        let got = bytes_found n bs (take n bs, drop n bs) fits (rw is refl) in
        record { one = take n bs; is = got.parts; spells = (got.long, got.fits) }

above_spelled : (n : ℕ) (at_value : List ℕ) (o : Ordering) (w : Walk) → Spelled (IsValue n) at_value w → Spelled (IsValue n) at_value (by_order o w (departed (length at_value)) (departed (length at_value)))
above_spelled n at_value Less w is = is
above_spelled n at_value Equal w is = record { front = []; rest = at_value; more = _; is = refl; long = refl; spells = value_joined n (0x00 ∷ []) (spell_pairs (zero_pairs n)) zero_item (some_pairs n) }
above_spelled n at_value Greater w is = record { front = []; rest = at_value; more = _; is = refl; long = refl; spells = value_joined n (0x00 ∷ []) (spell_pairs (zero_pairs n)) zero_item (some_pairs n) }

module _ (p : List ℕ → Walk) (each : (bs : List ℕ) → AreBytes bs → Spelled IsItem bs (p bs)) where
  all_spelled : (n : ℕ) (bs : List ℕ) → AreBytes bs → Spelled (AreItems n) bs (all_walk p n bs)
  unfolding all_walk spell
  all_spelled zero bs fits = record { one = []; is = refl; spells = record { items = no_raws; many = refl; fits = tt; is = refl } }
  all_spelled (suc n) bs fits =
      then_spelled IsItem (AreItems n) (AreItems (suc n)) bs (p bs) (all_walk p n) fits (each bs fits) (spell_all (zeros n)) (some_items n) (λ mid fits. all_spelled n mid fits) (item_joined n)

  pairs_spelled : (n : ℕ) (before bs : List ℕ) → AreBytes bs → Spelled (ArePairs n) bs (pairs_walk p n before bs)
  unfolding pairs_walk spell
  pairs_spelled zero before bs fits = record { one = []; is = refl; spells = record { pairs = no_raw_pairs; many = refl; fits = tt; is = refl } }
  pairs_spelled (suc n) before bs fits =
      then_spelled IsItem (IsValue n) (ArePairs (suc n)) bs (p bs) _ fits (each bs fits) ((0x00 ∷ []) ++ spell_pairs (zero_pairs n)) (value_joined n (0x00 ∷ []) (spell_pairs (zero_pairs n)) zero_item (some_pairs n))
      (λ at_value fits.
      let key = take (length bs - length at_value) bs in
      above_spelled n at_value (lex before key) _
      (then_spelled IsItem (ArePairs n) (IsValue n) at_value (p at_value) (pairs_walk p n key) fits (each at_value fits) (spell_pairs (zero_pairs n)) (some_pairs n) (λ more fits. pairs_spelled n key more fits) (value_joined n)))
      (pair_joined n)

-- ---- simple values and floats

one_simple : (s : Simple) → IsItem (simple_byte s ∷ [])
unfolding spell
one_simple s = record { item = raw.simple s; fits = tt; is = refl }

one_float : (f : FloatWidth) (w : Width) (first : ℕ) → IsWide w (float_limit f) → ((n : ℕ) → float_spelling f n ≡ first ∷ to_be_bytes w n) → (t : List ℕ) → IsContent (byte_len w) t → IsItem (first ∷ t)
unfolding spell
one_float f w first wide spelled t has = record {
  item = raw.float f (from_be_bytes w t);
  fits = wide.below t has.1;
  is = spelled (from_be_bytes w t) ∙ ap (λ (t : List ℕ). first ∷ t) (wide.back t has.0 has.1);
}

-- what holds at k where the first is done, and else where the other is, holds at the number
at_low : (P : ℕ → Walk → Type 0) (low k : ℕ) (w u : Walk) → P k w → P low u → P low (cond (eqb low k) w u)
at_low P low k w u one other = by_test (eqb low k) refl
  where
    by_test : (b : Bool) → eqb low k ≡ b → P low (cond b w u)
    by_test true is = subst (λ (i : ℕ). P i w) (sym (eqb-true low k is)) one
    by_test false is = other

module _ (bs : List ℕ) (fits : AreBytes bs) where
  abbrev IsSpecial : ℕ → Walk → Type 0
  IsSpecial low w = Spelled IsItem ((32 * 7 + low) ∷ bs) w

  special_passed : (low : ℕ) → IsItem ((32 * 7 + low) ∷ []) → IsSpecial low (passed bs)
  special_passed low one = record { one = (32 * 7 + low) ∷ []; is = refl; spells = one }

  special_departed : (low : ℕ) → IsItem ((32 * 7 + low) ∷ []) → IsSpecial low (departed (length bs))
  special_departed low one = record { front = (32 * 7 + low) ∷ []; rest = bs; more = []; is = refl; long = refl; spells = one }

  special_float : (f : FloatWidth) (w : Width) (low : ℕ) → IsWide w (float_limit f) → ((n : ℕ) → float_spelling f n ≡ (32 * 7 + low) ∷ to_be_bytes w n) → IsSpecial low (past (byte_len w) bs)
  special_float f w low wide spelled =
      behind_one (IsContent (byte_len w)) IsItem ((32 * 7 + low) ∷ bs) ((32 * 7 + low) ∷ []) bs (past (byte_len w) bs) refl (past_spelled (byte_len w) bs fits) (one_float f w (32 * 7 + low) wide spelled)

  special_spelled : (low : ℕ) → IsSpecial low (simple_walk low bs)
  unfolding simple_walk
  special_spelled low =
      at_low IsSpecial low 20 _ _ (special_passed 20 (one_simple false_item))
      (at_low IsSpecial low 21 _ _ (special_passed 21 (one_simple true_item))
      (at_low IsSpecial low 22 _ _ (special_passed 22 (one_simple null_item))
      (at_low IsSpecial low 23 _ _ (special_departed 23 (one_simple undefined_item))
      (at_low IsSpecial low 25 _ _ (special_float half w16 25 wide16 (λ n. refl))
      (at_low IsSpecial low 26 _ _ (special_float single w32 26 wide32 (λ n. refl))
      (at_low IsSpecial low 27 _ _ (special_float double w64 27 wide64 (λ n. refl)) tt))))))

-- ---- what stands after a head, once more: the whole item

in_unsigned : (w : HeadWidth) (n : ℕ) (t : List ℕ) → n < limit w → IsNothing t → IsItem (head 0 w n ++ t)
unfolding spell
in_unsigned w n t fits is = record { item = raw.unsigned w n; fits = fits; is = sym (ap (λ (t : List ℕ). head 0 w n ++ t) is ∙ append-nil (head 0 w n)) }

in_negative : (w : HeadWidth) (n : ℕ) (t : List ℕ) → n < limit w → IsNothing t → IsItem (head 1 w n ++ t)
unfolding spell
in_negative w n t fits is = record { item = raw.negative w n; fits = fits; is = sym (ap (λ (t : List ℕ). head 1 w n ++ t) is ∙ append-nil (head 1 w n)) }

in_bytes : (w : HeadWidth) (n : ℕ) (t : List ℕ) → n < limit w → IsContent n t → IsItem (head 2 w n ++ t)
unfolding spell
in_bytes w n t fits has = record { item = raw.bytes (record { width = w; bytes = t }); fits = (omega (arith, has.0, fits), has.1); is = ap (λ (n : ℕ). head 2 w n ++ t) has.0 }

in_text : (w : HeadWidth) (n : ℕ) (t : List ℕ) → n < limit w → IsContent n t → IsItem (head 3 w n ++ t)
unfolding spell
in_text w n t fits has = record { item = raw.text (record { width = w; bytes = t }); fits = (omega (arith, has.0, fits), has.1); is = ap (λ (n : ℕ). head 3 w n ++ t) has.0 }

in_array : (w : HeadWidth) (n : ℕ) (t : List ℕ) → n < limit w → AreItems n t → IsItem (head 4 w n ++ t)
unfolding spell
in_array w n t fits all = record { item = raw.array (definite w) all.items; fits = (omega (arith, all.many, fits), all.fits); is = ap₂ (λ (n : ℕ) (t : List ℕ). head 4 w n ++ t) all.many all.is }

in_map : (w : HeadWidth) (n : ℕ) (t : List ℕ) → n < limit w → ArePairs n t → IsItem (head 5 w n ++ t)
unfolding spell
in_map w n t fits all = record { item = raw.map (definite w) all.pairs; fits = (omega (arith, all.many, fits), all.fits); is = ap₂ (λ (n : ℕ) (t : List ℕ). head 5 w n ++ t) all.many all.is }

in_tag : (w : HeadWidth) (n : ℕ) (t : List ℕ) → n < limit w → IsItem t → IsItem (head 6 w n ++ t)
unfolding spell
in_tag w n t fits one = record { item = raw.tag w n one.item; fits = (fits, one.fits); is = ap (λ (t : List ℕ). head 6 w n ++ t) one.is }

open_bytes : IsItem (0x5f ∷ break)
unfolding spell
open_bytes = record { item = raw.bytes_chunks []; fits = tt; is = refl }

open_text : IsItem (0x7f ∷ break)
unfolding spell
open_text = record { item = raw.text_chunks []; fits = tt; is = refl }

open_array : IsItem (0x9f ∷ break)
unfolding spell
open_array = record { item = raw.array indefinite no_raws; fits = (tt, tt); is = refl }

open_map : IsItem (0xbf ∷ break)
unfolding spell
open_map = record { item = raw.map indefinite no_raw_pairs; fits = (tt, tt); is = refl }

content_spelled : (p : List ℕ → Walk) → ((bs : List ℕ) → AreBytes bs → Spelled IsItem bs (p bs)) → (major low : ℕ) (bs : List ℕ) → major < 8 → AreBytes bs → Spelled IsItem ((32 * major + low) ∷ bs) (content_walk p (major_of major) low bs)
unfolding content_walk
content_spelled p each major low bs below fits =
    each_major (λ k t. Spelled IsItem ((32 * k + low) ∷ bs) (content_walk p t low bs))
    (shortest_spelled (λ n. IsNothing) 0 (λ n bs. passed bs) (λ n. ([], refl)) nothing_spelled in_unsigned low bs fits)
    (shortest_spelled (λ n. IsNothing) 1 (λ n bs. passed bs) (λ n. ([], refl)) nothing_spelled in_negative low bs fits)
    (count_spelled IsContent 2 past (λ n. (zero_bytes n, some_content n)) past_spelled in_bytes open_bytes low bs fits)
    (count_spelled IsContent 3 past (λ n. (zero_bytes n, some_content n)) past_spelled in_text open_text low bs fits)
    (count_spelled AreItems 4 (all_walk p) (λ n. (_, some_items n)) (all_spelled p each) in_array open_array low bs fits)
    (count_spelled ArePairs 5 (λ n. pairs_walk p n []) (λ n. (_, some_pairs n)) (λ n bs fits. pairs_spelled p each n [] bs fits) in_map open_map low bs fits)
    (shortest_spelled (λ n. IsItem) 6 (λ n. p) (λ n. (_, zero_item)) (λ n. each) in_tag low bs fits)
    (special_spelled bs fits low)
    major below

walk_spelled : (fuel : ℕ) (bs : List ℕ) → AreBytes bs → Spelled IsItem bs (walk fuel bs)
unfolding walk
walk_spelled zero bs fits = tt
walk_spelled (suc fuel) [] fits = tt
walk_spelled (suc fuel) (b ∷ bs) fits =
    let below : b / 32 < 8 = omega (arith, fits 0) in
    subst (λ (c : ℕ). Spelled IsItem (c ∷ bs) (walk (suc fuel) (b ∷ bs))) (sym (first_is b)) (content_spelled (walk fuel) (walk_spelled fuel) (b / 32) (b % 32) bs below (AreBytes-rest b bs fits))

-- the bytes before those that are left begin a spelling
pub record Begins (bs : List ℕ) (left : ℕ) : Type 0 where
  pub front : List ℕ
  pub rest : List ℕ
  pub is : bs ≡ front ++ rest
  pub long : length rest ≡ left
  pub begins : BeginsSpelling front

pub walk_begins : (fuel : ℕ) (bs : List ℕ) (left : ℕ) → AreBytes bs → walk fuel bs ≡ departed left → Begins bs left
walk_begins fuel bs left fits is =
    let got = subst (Spelled IsItem bs) is (walk_spelled fuel bs fits) in
    record {
      front = got.front;
      rest = got.rest;
      is = got.is;
      long = got.long;
      begins = record { item = got.spells.item; fits = got.spells.fits; more = got.more; whole = got.spells.is };
    }
