-- An item keeps the canonical rules exactly where it is the canonical item of its value.
use Rattle.std.proofs.Common.{pos, negsuc, ◌≡◌, ℕ, ◌+◌, ◌^◌, ◌<◌, ◌≤◌, Bool, true, false, ltb, List, [], ◌∷◌, ◌++◌, length, None, Ordering, Less, Equal, Greater, refl, sym, ap, ap₂, subst, ◌∙◌, arith}
use Rattle.std.specs.Prelude.{◌&&◌, ◌||◌, not, ◌==◌}
use Rattle.std.specs.List.{AllByRecursion}
use Rattle.std.proofs.lemmas.Bool.{lt-ltb, le-ltb, ltb-false, cond_both}
use Rattle.std.proofs.lemmas.List.{append-nil}
use Rattle.cbor_model.specs.Acceptable.{max_depth}
use Rattle.cbor_model.specs.Head.{HeadWidth, no_bytes, one_byte, two_bytes, four_bytes, eight_bytes, limit, least}
use Rattle.cbor_model.specs.InRange.{IsInRange, AreInRange, ArePairsInRange}
use Rattle.cbor_model.specs.Laws.{SpellsValue}
use Rattle.cbor_model.specs.Order.{lex, val_cmp}
use Rattle.cbor_model.specs.Plain.{Val, null, bool, integer, float, bytes, text, array, map, tag, Vals, no_vals, val, Pairs, no_pairs, pair}
use Rattle.cbor_model.specs.Raw as raw
use Rattle.cbor_model.specs.Raw.{definite, indefinite, Raw, Raws, no_raws, RawPairs, no_raw_pairs, raw_pair, half, single, double, false_item, true_item, null_item, undefined_item, IsWellFormed, AreWellFormed, ArePairsWellFormed}
use Rattle.cbor_model.specs.Spelling.{spell}
use Rattle.cbor_model.specs.Value.{value, values, pairs, put}
use Rattle.cbor_model.specs.FiniteMap.{put_all}
use Rattle.cbor_model.specs.Canonical.{canonical_bool, canonical, canonical_all, canonical_pairs, canon, IsStorable, AreStorable, ArePairsStorable, IsBelow, KeysAscend, IsOrdered, AreOrdered, ArePairsOrdered}
use Rattle.cbor_model.proofs.facts.Canonical.{count_canonical, pair_count_canonical}
use Rattle.cbor_model.proofs.facts.Laws.{byte_order, one_spelling, value_is_canonical, value_is_storable}
use Rattle.cbor_model.proofs.facts.Maps.{put_all-ascending}
use Rattle.cbor_rules.specs.Features.{Feature, number, simple_item, float_bits, key, nth_item, chunk_to, Place, head_end, features, all_features, pair_features}
use Rattle.cbor_rules.specs.Presets as presets
use Rattle.cbor_rules.specs.Presets.{IsCanonicalOf, WrittenIsAccepted, AcceptedIsWritten}
use Rattle.cbor_rules.specs.Rules.{Terms, latest, only, floor, is_less, is_unique, key_cmp, breaks, Keeps}
use Rattle.cbor_rules.specs.declared.settings.Rules.{Rules}
use Rattle.cbor_rules.specs.declared.settings.KeyOrder.{KeyOrder}
use Rattle.cbor_rules.specs.declared.settings.KeyOrder.TheVariants.{Bytewise}
use Rattle.cbor_rules.specs.declared.settings.Rule.{Rule}
use Rattle.cbor_rules.specs.declared.settings.Rule.TheVariants.{ShortestHeads, DefiniteLengths, PlainKeys, AscendingKeys, UniqueKeys, ReducedNumbers, ShortestFloats, OneNan, NoUndefined, NoTags, MostItems, MostPairs, MostBytes}

-- ---- places

-- the feature breaks no rule that is on
abbrev pub IsFine : Rules → Feature → Type 0
IsFine rules f = (rule : Rule) → breaks (only rules) rule f ≡ false

abbrev pub AreFine : Rules → List Place → Type 0
AreFine rules = AllByRecursion (λ (p : Place). IsFine rules p.feature)

module _ (rules : Rules) where
  by_place : (ps : List Place) → ((rule : Rule) → AllByRecursion (λ (p : Place). breaks (only rules) rule p.feature ≡ false) ps) → AreFine rules ps
  by_place [] each = tt
  by_place (p ∷ ps) each = (λ rule. (each rule).0, by_place ps (λ rule. (each rule).1))

  by_rule : (ps : List Place) → AreFine rules ps → (rule : Rule) → AllByRecursion (λ (p : Place). breaks (only rules) rule p.feature ≡ false) ps
  by_rule [] all rule = tt
  by_rule (p ∷ ps) all rule = (all.0 rule, by_rule ps all.1 rule)

  pub kept_fine : (item : Raw) → Keeps (only rules) item → AreFine rules (features 0 item)
  kept_fine item keeps = by_place (features 0 item) keeps

  pub fine_kept : (item : Raw) → AreFine rules (features 0 item) → Keeps (only rules) item
  fine_kept item fine = by_rule (features 0 item) fine

  pub first_fine : (ps qs : List Place) → AreFine rules (ps ++ qs) → AreFine rules ps
  first_fine [] qs all = tt
  first_fine (p ∷ ps) qs all = (all.0, first_fine ps qs all.1)

  pub rest_fine : (ps qs : List Place) → AreFine rules (ps ++ qs) → AreFine rules qs
  rest_fine [] qs all = all
  rest_fine (p ∷ ps) qs all = rest_fine ps qs all.1

  pub both_fine : (ps qs : List Place) → AreFine rules ps → AreFine rules qs → AreFine rules (ps ++ qs)
  both_fine [] qs one other = other
  both_fine (p ∷ ps) qs one other = (one.0, both_fine ps qs one.1 other)

-- ---- tests

and_true : (b : Bool) → (b && true) ≡ false → b ≡ false
and_true true is = is
and_true false is = refl

pub and_false : (b : Bool) → (b && false) ≡ false
and_false true = refl
and_false false = refl

pub less : (o : Ordering) → not (is_less o) ≡ false → o ≡ Less
less Less is = refl
less Equal is = absurd cc
less Greater is = absurd cc

-- ---- heads

-- a width that a number fits, and no narrower one, is its least
least-is : (w : HeadWidth) (n : ℕ) → n < limit w → floor w ≤ n → least n ≡ w
least-is no_bytes n fits least = rw (lt-ltb n 24 fits) refl
least-is one_byte n fits least = rw (le-ltb n 24 least, lt-ltb n (2 ^ 8) fits) refl
least-is two_bytes n fits least = rw (le-ltb n 24 (omega (arith, least)), le-ltb n (2 ^ 8) least, lt-ltb n (2 ^ 16) fits) refl
least-is four_bytes n fits least = rw (le-ltb n 24 (omega (arith, least)), le-ltb n (2 ^ 8) (omega (arith, least)), le-ltb n (2 ^ 16) least, lt-ltb n (2 ^ 32) fits) refl
least-is eight_bytes n fits least = rw (le-ltb n 24 (omega (arith, least)), le-ltb n (2 ^ 8) (omega (arith, least)), le-ltb n (2 ^ 16) (omega (arith, least)), le-ltb n (2 ^ 32) least) refl

pub shortest : (w : HeadWidth) (n : ℕ) → n < limit w → (ltb n (floor w) && true) ≡ false → w ≡ least n
shortest w n fits fine = sym (least-is w n fits (ltb-false n (floor w) (and_true (ltb n (floor w)) fine)))

floor-least : (n : ℕ) → floor (least n) ≤ n
floor-least n =
    cond_both (ltb n 24) _ _ (λ w. floor w ≤ n) (λ e. omega arith)
    (λ a. cond_both (ltb n (2 ^ 8)) _ _ (λ w. floor w ≤ n) (λ e. ltb-false n 24 a)
    (λ b. cond_both (ltb n (2 ^ 16)) _ _ (λ w. floor w ≤ n) (λ e. ltb-false n (2 ^ 8) b)
    (λ c. cond_both (ltb n (2 ^ 32)) _ _ (λ w. floor w ≤ n) (λ e. ltb-false n (2 ^ 16) c)
    (λ d. ltb-false n (2 ^ 32) d))))

pub limit-le : (w : HeadWidth) → limit w ≤ 2 ^ 64
limit-le no_bytes = omega arith
limit-le one_byte = omega arith
limit-le two_bytes = omega arith
limit-le four_bytes = omega arith
limit-le eight_bytes = omega arith

-- ---- values in range

mutual
  unfolding canonical

  pub in_range : (v : Val) → IsWellFormed (canonical v) → IsInRange v
  in_range null fits = tt
  in_range (bool b) fits = tt
  in_range (integer z) fits = tt
  in_range (float w bits) fits = fits
  in_range (bytes b) fits = omega (arith, fits.0, limit-le (least (length b)))
  in_range (text b) fits = omega (arith, fits.0, limit-le (least (length b)))
  in_range (array vs) fits = (omega (arith, fits.0, count_canonical vs, limit-le (least (raw.count (canonical_all vs)))), all_in_range vs fits.1)
  in_range (map ps) fits = (omega (arith, fits.0, pair_count_canonical ps, limit-le (least (raw.pair_count (canonical_pairs ps)))), pairs_in_range ps fits.1)
  in_range (tag n v) fits = (omega (arith, fits.0, limit-le (least n)), in_range v fits.1)

  all_in_range : (vs : Vals) → AreWellFormed (canonical_all vs) → AreInRange vs
  all_in_range no_vals fits = tt
  all_in_range (val v vs) fits = (in_range v fits.0, all_in_range vs fits.1)

  pairs_in_range : (ps : Pairs) → ArePairsWellFormed (canonical_pairs ps) → ArePairsInRange ps
  pairs_in_range no_pairs fits = tt
  pairs_in_range (pair k v ps) fits = (in_range k fits.0, in_range v fits.1, pairs_in_range ps fits.2)

-- ---- keys

-- the pairs, one by one
abbrev pub listed : RawPairs → Pairs
listed no_raw_pairs = no_pairs
listed (raw_pair k v ps) = pair (value k) (value v) (listed ps)

pub pairs-listed : (ps : RawPairs) (before : Pairs) → pairs ps before ≡ put_all (listed ps) before
unfolding value
pairs-listed no_raw_pairs before = refl
pairs-listed (raw_pair k v ps) before = pairs-listed ps (put (value k) (value v) before)

-- keys that are canonical items compare by their bytes as their values do
keys_compare : (k l : Raw) → IsWellFormed k → IsWellFormed l → k ≡ canonical (value k) → l ≡ canonical (value l) → val_cmp (value k) (value l) ≡ lex (spell k) (spell l)
unfolding canon
keys_compare k l fits fits' is is' =
    byte_order (value k) (value l) (value_is_storable k fits) (value_is_storable l fits')
    (in_range (value k) (subst IsWellFormed is fits)) (in_range (value l) (subst IsWellFormed is' fits'))
    ∙ ap₂ (λ (a b : Raw). lex (spell a) (spell b)) (sym is) (sym is')

-- the first of the pairs' keys is above these bytes
abbrev FirstAbove : List ℕ → RawPairs → Type 0
FirstAbove before no_raw_pairs = Unit {0}
FirstAbove before (raw_pair k v ps) = lex before (spell k) ≡ Less

-- ---- items

abbrev rules : Rules
rules = presets.canonical

record AreCanonical (before : List ℕ) (ps : RawPairs) : Type 0 where
  same : ps ≡ canonical_pairs (listed ps)
  firsts : FirstAbove before ps
  ascend : KeysAscend (listed ps)

below_first : (k : Raw) (ps : RawPairs) → IsWellFormed k → k ≡ canonical (value k) → ArePairsWellFormed ps → ps ≡ canonical_pairs (listed ps) → FirstAbove (spell k) ps → IsBelow (value k) (listed ps)
unfolding canonical
below_first k no_raw_pairs fits is fit same above = tt
below_first k (raw_pair l v ps) fits is fit same above =
    let first : RawPairs → Raw = λ (qs : RawPairs). first_of l qs in
    keys_compare k l fits fit.0 is (ap first same) ∙ above
  where
    first_of : Raw → RawPairs → Raw
    first_of l no_raw_pairs = l
    first_of l (raw_pair k v ps) = k

mutual
  unfolding features value canonical

  pub clean : (at : ℕ) (r : Raw) → IsWellFormed r → AreFine rules (features at r) → r ≡ canonical (value r)
  clean at (raw.unsigned w n) fits fine = ap (λ (w : HeadWidth). raw.unsigned w n) (shortest w n fits (fine.0 ShortestHeads))
  clean at (raw.negative w n) fits fine = ap (λ (w : HeadWidth). raw.negative w n) (shortest w n fits (fine.0 ShortestHeads))
  clean at (raw.bytes c) fits fine = ap (λ (w : HeadWidth). raw.bytes (record { width = w; bytes = c.bytes })) (shortest c.width (length c.bytes) fits.0 (fine.0 ShortestHeads))
  clean at (raw.text c) fits fine = ap (λ (w : HeadWidth). raw.text (record { width = w; bytes = c.bytes })) (shortest c.width (length c.bytes) fits.0 (fine.0 ShortestHeads))
  clean at (raw.bytes_chunks cs) fits fine = absurd (let no = fine.0 DefiniteLengths in cc)
  clean at (raw.text_chunks cs) fits fine = absurd (let no = fine.0 DefiniteLengths in cc)
  clean at (raw.array (definite w) rs) fits fine =
      let n = raw.count rs in
      ap (λ (w : HeadWidth). raw.array (definite w) rs) (shortest w n fits.0 (fine.0 ShortestHeads))
      ∙ ap (λ (rs : Raws). raw.array (definite (least (raw.count rs))) rs) (all_clean (head_end at 4 w n) rs fits.1 fine.1)
  clean at (raw.array indefinite rs) fits fine = absurd (let no = fine.0 DefiniteLengths in cc)
  clean at (raw.map (definite w) ps) fits fine =
      let n = raw.pair_count ps in
      let got = pairs_clean (head_end at 5 w n) [] ps fits.1 fine.1 in
      ap (λ (w : HeadWidth). raw.map (definite w) ps) (shortest w n fits.0 (fine.0 ShortestHeads))
      ∙ ap (λ (ps : RawPairs). raw.map (definite (least (raw.pair_count ps))) ps)
      (got.same ∙ ap canonical_pairs (sym (pairs-listed ps no_pairs ∙ put_all-ascending (listed ps) got.ascend)))
  clean at (raw.map indefinite ps) fits fine = absurd (let no = fine.0 DefiniteLengths in cc)
  clean at (raw.tag w n r) fits fine =
      ap (λ (w : HeadWidth). raw.tag w n r) (shortest w n fits.0 (fine.0 ShortestHeads)) ∙ ap (raw.tag (least n) n) (clean (head_end at 6 w n) r fits.1 fine.1)
  clean at (raw.simple false_item) fits fine = refl
  clean at (raw.simple true_item) fits fine = refl
  clean at (raw.simple null_item) fits fine = refl
  clean at (raw.simple undefined_item) fits fine = absurd (let no = fine.0 NoUndefined in cc)
  clean at (raw.float w bits) fits fine = refl

  all_clean : (at : ℕ) (rs : Raws) → AreWellFormed rs → AreFine rules (all_features at rs) → rs ≡ canonical_all (values rs)
  all_clean at no_raws fits fine = refl
  all_clean at (raw.raw r rs) fits fine =
      let more = all_features (at + length (spell r)) rs in
      ap₂ raw.raw (clean at r fits.0 (first_fine rules (features at r) more fine)) (all_clean (at + length (spell r)) rs fits.1 (rest_fine rules (features at r) more fine))

  pairs_clean : (at : ℕ) (earlier : List (List ℕ)) (ps : RawPairs) → ArePairsWellFormed ps → AreFine rules (pair_features at earlier ps) → AreCanonical (latest earlier) ps
  pairs_clean at earlier no_raw_pairs fits fine = record { same = refl; firsts = tt; ascend = tt }
  pairs_clean at earlier (raw_pair k v ps) fits fine =
      let here = at + length (spell k) in
      let there = at + length (spell k) + length (spell v) in
      let others = pair_features there (spell k ∷ earlier) ps in
      let a = rest_fine rules (features at k) _ fine in
      let is = clean at k fits.0 (first_fine rules (features at k) _ fine) in
      let later = pairs_clean there (spell k ∷ earlier) ps fits.2 (rest_fine rules (features here v) others a.1) in
      record {
        same = ap (λ (l : Raw). raw_pair l v ps) is
            ∙ ap₂ (λ (w : Raw) (qs : RawPairs). raw_pair (canonical (value k)) w qs) (clean here v fits.1 (first_fine rules (features here v) others a.1)) later.same;
        firsts = less (lex (latest earlier) (spell k)) (a.0 AscendingKeys);
        ascend = (below_first k ps fits.0 is fits.2 later.same later.firsts, later.ascend);
      }

-- ---- and the canonical item of an ordered value keeps them

-- where there are no limits, no feature breaks them
pub items_free : (terms : Terms) (f : Feature) → terms.rules.most_items ≡ None → breaks terms MostItems f ≡ false
items_free terms (number m w n) none = rw none (and_false (m == 4))
items_free terms (nth_item earlier) none = rw none refl
items_free terms _ none = refl

pub pairs_free : (terms : Terms) (f : Feature) → terms.rules.most_pairs ≡ None → breaks terms MostPairs f ≡ false
pairs_free terms (number m w n) none = rw none (and_false (m == 5))
pairs_free terms (key earlier k) none = rw none refl
pairs_free terms _ none = refl

pub bytes_free : (terms : Terms) (f : Feature) → terms.rules.most_bytes ≡ None → breaks terms MostBytes f ≡ false
bytes_free terms (number m w n) none = rw none (and_false ((m == 2) || (m == 3)))
bytes_free terms (chunk_to n) none = rw none refl
bytes_free terms _ none = refl

-- likewise with another order of keys
abbrev pub by_keys : KeyOrder → Rules
by_keys order = record presets.canonical { keys = order }

pub number_fine : (order : KeyOrder) (major n : ℕ) → IsFine (by_keys order) (number major (least n) n)
number_fine order major n ShortestHeads = rw (le-ltb n (floor (least n)) (floor-least n)) refl
number_fine order major n NoTags = and_false (major == 6)
number_fine order major n DefiniteLengths = refl
number_fine order major n PlainKeys = refl
number_fine order major n AscendingKeys = refl
number_fine order major n UniqueKeys = refl
number_fine order major n ReducedNumbers = refl
number_fine order major n ShortestFloats = refl
number_fine order major n OneNan = refl
number_fine order major n NoUndefined = refl
number_fine order major n MostItems = items_free (only (by_keys order)) (number major (least n) n) refl
number_fine order major n MostPairs = pairs_free (only (by_keys order)) (number major (least n) n) refl
number_fine order major n MostBytes = bytes_free (only (by_keys order)) (number major (least n) n) refl

pub float_fine : (order : KeyOrder) (w : raw.FloatWidth) (bits : ℕ) → IsFine (by_keys order) (float_bits w bits)
float_fine order w bits ShortestHeads = refl
float_fine order w bits NoTags = refl
float_fine order w bits DefiniteLengths = refl
float_fine order w bits PlainKeys = refl
float_fine order w bits AscendingKeys = refl
float_fine order w bits UniqueKeys = refl
float_fine order w bits ReducedNumbers = refl
float_fine order w bits ShortestFloats = refl
float_fine order w bits OneNan = refl
float_fine order w bits NoUndefined = refl
float_fine order w bits MostItems = items_free (only (by_keys order)) (float_bits w bits) refl
float_fine order w bits MostPairs = pairs_free (only (by_keys order)) (float_bits w bits) refl
float_fine order w bits MostBytes = bytes_free (only (by_keys order)) (float_bits w bits) refl

pub key_fine : (order : KeyOrder) (earlier : List (List ℕ)) (k : List ℕ) → is_unique order ≡ false → key_cmp order (latest earlier) k ≡ Less → IsFine (by_keys order) (key earlier k)
key_fine order earlier k apart is ShortestHeads = refl
key_fine order earlier k apart is NoTags = refl
key_fine order earlier k apart is DefiniteLengths = refl
key_fine order earlier k apart is PlainKeys = refl
key_fine order earlier k apart is UniqueKeys = rw apart refl
key_fine order earlier k apart is AscendingKeys = ap (λ (o : Ordering). not (is_less o)) is
key_fine order earlier k apart is ReducedNumbers = refl
key_fine order earlier k apart is ShortestFloats = refl
key_fine order earlier k apart is OneNan = refl
key_fine order earlier k apart is NoUndefined = refl
key_fine order earlier k apart is MostItems = items_free (only (by_keys order)) (key earlier k) refl
key_fine order earlier k apart is MostPairs = pairs_free (only (by_keys order)) (key earlier k) refl
key_fine order earlier k apart is MostBytes = bytes_free (only (by_keys order)) (key earlier k) refl

-- of what is written for a value
abbrev pub IsWritten : raw.Simple → Type 0
IsWritten undefined_item = ⊥
IsWritten _ = Unit {0}

pub simple_fine : (order : KeyOrder) (s : raw.Simple) → IsWritten s → IsFine (by_keys order) (simple_item s)
simple_fine order s is ShortestHeads = refl
simple_fine order s is NoTags = refl
simple_fine order s is MostItems = items_free (only (by_keys order)) (simple_item s) refl
simple_fine order s is MostPairs = pairs_free (only (by_keys order)) (simple_item s) refl
simple_fine order s is MostBytes = bytes_free (only (by_keys order)) (simple_item s) refl
simple_fine order s is DefiniteLengths = refl
simple_fine order s is PlainKeys = refl
simple_fine order s is AscendingKeys = refl
simple_fine order s is UniqueKeys = refl
simple_fine order s is ReducedNumbers = refl
simple_fine order s is ShortestFloats = refl
simple_fine order s is OneNan = refl
simple_fine order false_item is NoUndefined = refl
simple_fine order true_item is NoUndefined = refl
simple_fine order null_item is NoUndefined = refl
simple_fine order undefined_item is NoUndefined = absurd is

pub bool_written : (b : Bool) → IsWritten (canonical_bool b)
bool_written true = tt
bool_written false = tt

-- the bytes of a first key are above none
pub first_above : (r : Raw) → lex [] (spell r) ≡ Less
unfolding spell
first_above (raw.unsigned w n) = refl
first_above (raw.negative w n) = refl
first_above (raw.bytes c) = refl
first_above (raw.text c) = refl
first_above (raw.bytes_chunks cs) = refl
first_above (raw.text_chunks cs) = refl
first_above (raw.array (definite w) rs) = refl
first_above (raw.array indefinite rs) = refl
first_above (raw.map (definite w) ps) = refl
first_above (raw.map indefinite ps) = refl
first_above (raw.tag w n r) = refl
first_above (raw.simple s) = refl
first_above (raw.float half bits) = refl
first_above (raw.float single bits) = refl
first_above (raw.float double bits) = refl

pub first_of_map : (ps : RawPairs) → FirstAbove [] ps
first_of_map no_raw_pairs = tt
first_of_map (raw_pair k v ps) = first_above k

next_above : (k : Val) (ps : Pairs) → IsStorable k → IsInRange k → ArePairsStorable ps → ArePairsInRange ps → IsBelow k ps → FirstAbove (spell (canonical k)) (canonical_pairs ps)
unfolding canonical canon
next_above k no_pairs stored held all_stored all_held below = tt
next_above k (pair l w ps) stored held all_stored all_held below =
    sym (byte_order k l stored all_stored.0 held all_held.0) ∙ below

mutual
  unfolding features canonical

  pub canonical_fine : (at : ℕ) (v : Val) → IsStorable v → IsInRange v → IsOrdered v → AreFine rules (features at (canonical v))
  canonical_fine at null stored held ordered = (simple_fine Bytewise null_item tt, tt)
  canonical_fine at (bool b) stored held ordered = (simple_fine Bytewise (canonical_bool b) (bool_written b), tt)
  canonical_fine at (integer (pos n)) stored held ordered = (number_fine Bytewise 0 n, tt)
  canonical_fine at (integer (negsuc n)) stored held ordered = (number_fine Bytewise 1 n, tt)
  canonical_fine at (float w bits) stored held ordered = (float_fine Bytewise w bits, tt)
  canonical_fine at (bytes b) stored held ordered = (number_fine Bytewise 2 (length b), tt)
  canonical_fine at (text b) stored held ordered = (number_fine Bytewise 3 (length b), tt)
  canonical_fine at (array vs) stored held ordered =
      let n = raw.count (canonical_all vs) in
      (number_fine Bytewise 4 n, all_canonical_fine (head_end at 4 (least n) n) vs stored held.1 ordered)
  canonical_fine at (map ps) stored held ordered =
      let n = raw.pair_count (canonical_pairs ps) in
      (number_fine Bytewise 5 n, pairs_canonical_fine (head_end at 5 (least n) n) [] ps stored held.1 ordered (first_of_map (canonical_pairs ps)))
  canonical_fine at (tag n v) stored held ordered = (number_fine Bytewise 6 n, canonical_fine (head_end at 6 (least n) n) v stored held.1 ordered)

  all_canonical_fine : (at : ℕ) (vs : Vals) → AreStorable vs → AreInRange vs → AreOrdered vs → AreFine rules (all_features at (canonical_all vs))
  all_canonical_fine at no_vals stored held ordered = tt
  all_canonical_fine at (val v vs) stored held ordered =
      let more = at + length (spell (canonical v)) in
      both_fine rules (features at (canonical v)) (all_features more (canonical_all vs))
      (canonical_fine at v stored.0 held.0 ordered.0) (all_canonical_fine more vs stored.1 held.1 ordered.1)

  pairs_canonical_fine : (at : ℕ) (earlier : List (List ℕ)) (ps : Pairs) → ArePairsStorable ps → ArePairsInRange ps → ArePairsOrdered ps → FirstAbove (latest earlier) (canonical_pairs ps) → AreFine rules (pair_features at earlier (canonical_pairs ps))
  pairs_canonical_fine at earlier no_pairs stored held ordered above = tt
  pairs_canonical_fine at earlier (pair k v ps) stored held ordered above =
      let name = spell (canonical k) in
      let here = at + length name in
      let there = at + length name + length (spell (canonical v)) in
      both_fine rules (features at (canonical k)) _ (canonical_fine at k stored.0 held.0 ordered.1) (
        key_fine Bytewise earlier name refl above,
        both_fine rules (features here (canonical v)) (pair_features there (name ∷ earlier) (canonical_pairs ps))
            (canonical_fine here v stored.1 held.1 ordered.2)
            (pairs_canonical_fine there (name ∷ earlier) ps stored.2 held.2 ordered.3 (next_above k ps stored.0 held.0 stored.2 held.2 ordered.0)),
      )

-- ---- the laws

-- bytes encode one item
pub one_item : (bs : List ℕ) (r s : Raw) → IsWellFormed r → IsWellFormed s → spell r ≡ bs → spell s ≡ bs → r ≡ s
one_item bs r s fits fits' is is' = (one_spelling r s [] fits fits' (append-nil (spell r) ∙ is ∙ sym is')).0

-- where the bytes are the canonical encoding of the value, the item is the canonical one
pub canonical_item : (bs : List ℕ) (v : Val) → length bs < 2 ^ 64 → (spelt : SpellsValue bs v) → bs ≡ canon v → spelt.item ≡ canonical v
unfolding canon
canonical_item bs v short spelt is =
    let good = value_is_canonical max_depth spelt.item spelt.acceptable (subst (λ (bs : List ℕ). length bs < 2 ^ 64) (sym spelt.spelled) short) in
    let fits = subst (λ (v : Val). IsWellFormed (canonical v)) (sym spelt.valued) good.2.fits in
    one_item bs spelt.item (canonical v) spelt.acceptable.fits fits spelt.spelled (sym is)

pub written_is_accepted : WrittenIsAccepted presets.canonical IsCanonicalOf
written_is_accepted bs v short spelt is =
    let good = value_is_canonical max_depth spelt.item spelt.acceptable (subst (λ (bs : List ℕ). length bs < 2 ^ 64) (sym spelt.spelled) short) in
    let fine = canonical_fine 0 (value spelt.item) good.0 (in_range (value spelt.item) good.2.fits) good.1 in
    fine_kept rules spelt.item
    (subst (λ (r : Raw). AreFine rules (features 0 r))
    (ap canonical (sym spelt.valued) ∙ sym (canonical_item bs v short spelt is)) fine)

pub accepted_is_written : AcceptedIsWritten presets.canonical IsCanonicalOf
unfolding canon
accepted_is_written bs v short spelt keeps =
    let r = spelt.item in
    sym spelt.spelled ∙ ap spell (clean 0 r spelt.acceptable.fits (kept_fine rules r keeps)) ∙ ap canon (sym spelt.valued)
