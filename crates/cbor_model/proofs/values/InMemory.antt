-- What a program's value stands for is in range, and its canonical item is acceptable.
use Rattle.std.proofs.Common.{◌≡◌, ◌^◌, ◌<◌, ◌≤◌, ℕ, ℤ, pos, negsuc, IsUtf8, arith}
use Rattle.cbor_model.specs.Head.{limit, least}
use Rattle.cbor_model.specs.Raw.{IsWellFormed, AreWellFormed, ArePairsWellFormed, depth, EachText, EachTextOfAll, EachTextOfPairs}
use Rattle.cbor_model.specs.Acceptable.{IsAcceptableWithin, max_depth}
use Rattle.cbor_model.specs.Plain.{Val, null, bool, integer, float, bytes, text, array, map, tag, Vals, no_vals, val, Pairs, no_pairs, pair, count, pair_count}
use Rattle.cbor_model.specs.Canonical.{IsStorable, IsStorableInteger, AreStorable, ArePairsStorable, IsOrdered, canonical, canonical_all, canonical_pairs, canonical_integer, canon}
use Rattle.cbor_model.specs.InRange.{IsInRange, AreInRange, ArePairsInRange}
use Rattle.cbor_model.specs.InMemory.{IsInMemory, AreInMemory, ArePairsInMemory}
use Rattle.cbor_model.specs.Laws.{SpellsValue}
use Rattle.cbor_model.proofs.values.Canonical.{lt-limit-least}
use Rattle.cbor_model.proofs.values.Counts.{count_canonical, pair_count_canonical}
use Rattle.cbor_model.proofs.values.Normal.{spells_canon}

mutual
  pub in_range : (v : Val) → IsInMemory v → IsInRange v
  in_range null h = tt
  in_range (bool b) h = tt
  in_range (integer z) h = tt
  in_range (float w bits) h = h
  in_range (bytes b) h = h.0
  in_range (text b) h = h.0.0
  in_range (array vs) h = (h.0, all_in_range vs h.1)
  in_range (map ps) h = (h.0, pairs_in_range ps h.1)
  in_range (tag n v) h = (h.0, in_range v h.1)

  all_in_range : (vs : Vals) → AreInMemory vs → AreInRange vs
  all_in_range no_vals h = tt
  all_in_range (val v vs) h = (in_range v h.0, all_in_range vs h.1)

  pairs_in_range : (ps : Pairs) → ArePairsInMemory ps → ArePairsInRange ps
  pairs_in_range no_pairs h = tt
  pairs_in_range (pair k v ps) h = (in_range k h.0, in_range v h.1, pairs_in_range ps h.2)

-- ---- well formed

pub integer_fits : (z : ℤ) → IsStorableInteger z → IsWellFormed (canonical_integer z)
integer_fits (pos n) below = lt-limit-least n below
integer_fits (negsuc n) below = lt-limit-least n below

pub counted : (m n : ℕ) → m ≡ n → n < 2 ^ 64 → m < limit (least m)
counted m n same below = lt-limit-least m (omega arith)

mutual
  unfolding canonical

  pub fits : (v : Val) → IsStorable v → IsInMemory v → IsWellFormed (canonical v)
  fits null s h = tt
  fits (bool b) s h = tt
  fits (integer z) s h = integer_fits z s
  fits (float w bits) s h = h
  fits (bytes b) s h = (lt-limit-least _ h.0, h.1)
  fits (text b) s h = (lt-limit-least _ h.0.0, h.0.1)
  fits (array vs) s h = (counted _ (count vs) (count_canonical vs) h.0, all_fit vs s h.1)
  fits (map ps) s h = (counted _ (pair_count ps) (pair_count_canonical ps) h.0, pairs_fit ps s h.1)
  fits (tag n v) s h = (lt-limit-least n h.0, fits v s h.1)

  all_fit : (vs : Vals) → AreStorable vs → AreInMemory vs → AreWellFormed (canonical_all vs)
  all_fit no_vals s h = tt
  all_fit (val v vs) s h = (fits v s.0 h.0, all_fit vs s.1 h.1)

  pairs_fit : (ps : Pairs) → ArePairsStorable ps → ArePairsInMemory ps → ArePairsWellFormed (canonical_pairs ps)
  pairs_fit no_pairs s h = tt
  pairs_fit (pair k v ps) s h = (fits k s.0 h.0, fits v s.1 h.1, pairs_fit ps s.2 h.2)

-- ---- texts

mutual
  unfolding canonical

  pub texts : (v : Val) → IsInMemory v → EachText IsUtf8 (canonical v)
  texts null h = tt
  texts (bool b) h = tt
  texts (integer (pos n)) h = tt
  texts (integer (negsuc n)) h = tt
  texts (float w bits) h = tt
  texts (bytes b) h = tt
  texts (text b) h = h.1
  texts (array vs) h = all_texts vs h.1
  texts (map ps) h = pairs_texts ps h.1
  texts (tag n v) h = texts v h.1

  all_texts : (vs : Vals) → AreInMemory vs → EachTextOfAll IsUtf8 (canonical_all vs)
  all_texts no_vals h = tt
  all_texts (val v vs) h = (texts v h.0, all_texts vs h.1)

  pairs_texts : (ps : Pairs) → ArePairsInMemory ps → EachTextOfPairs IsUtf8 (canonical_pairs ps)
  pairs_texts no_pairs h = tt
  pairs_texts (pair k v ps) h = (texts k h.0, texts v h.1, pairs_texts ps h.2)

-- ---- the laws

pub canonical_is_acceptable : (levels : ℕ) (v : Val) → IsStorable v → IsInMemory v → depth (canonical v) ≤ levels → IsAcceptableWithin levels (canonical v)
canonical_is_acceptable levels v s h nests = record { fits = fits v s h; nests = nests; texts = texts v h }

pub written_reads_back : (v : Val) → IsStorable v → IsOrdered v → IsInMemory v → depth (canonical v) ≤ max_depth → SpellsValue (canon v) v
written_reads_back v s ordered h nests = spells_canon v ordered (canonical_is_acceptable max_depth v s h nests)
