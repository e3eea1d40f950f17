-- No definite spelling of a value is shorter than the canonical one.
use Rattle.std.proofs.Common.{◌≡◌, ℕ, ◌+◌, ◌<◌, ◌≤◌, [], ◌++◌, length, refl, ap, arith}
use Rattle.std.proofs.lemmas.List.{length-append}
use Rattle.cbor_model.specs.Head.{HeadWidth, no_bytes, one_byte, two_bytes, four_bytes, eight_bytes, limit, behind, head, least, short}
use Rattle.cbor_model.specs.Raw as raw
use Rattle.cbor_model.specs.Raw.{definite, indefinite, Raw, Raws, no_raws, RawPairs, no_raw_pairs, raw_pair, Simple, false_item, true_item, null_item, undefined_item, FloatWidth, half, single, double, IsWellFormed, AreWellFormed, ArePairsWellFormed}
use Rattle.cbor_model.specs.Spelling.{spell, spell_all, spell_pairs}
use Rattle.cbor_model.specs.Definite.{IsDefinite, AreDefinite, ArePairsDefinite}
use Rattle.cbor_model.specs.Plain.{Val, Pairs, no_pairs, pair}
use Rattle.cbor_model.specs.Order.{val_cmp}
use Rattle.cbor_model.specs.Value.{value, values, pairs, put, simple_value}
use Rattle.cbor_model.specs.Canonical.{canonical, canonical_all, canonical_pairs, canon}
use Rattle.cbor_model.proofs.order.Pairs.{by_order-cases}
use Rattle.cbor_model.proofs.values.Canonical.{count_values, count_pairs}
use Rattle.cbor_model.proofs.order.HeadOrder.{least-cases}

-- ---- heads

abbrev size : HeadWidth → ℕ
size no_bytes = 0
size one_byte = 1
size two_bytes = 2
size four_bytes = 4
size eight_bytes = 8

length-behind : (w : HeadWidth) (n : ℕ) → length (behind w n) ≡ size w
length-behind no_bytes n = refl
length-behind one_byte n = refl
length-behind two_bytes n = refl
length-behind four_bytes n = refl
length-behind eight_bytes n = refl

-- no width that a number fits takes fewer bytes than its least
size-le : (w : HeadWidth) (n : ℕ) → n < limit w → size (least n) ≤ size w
size-le no_bytes n fits = least-cases (λ u. size u ≤ 0) n (omega arith) (λ a. omega arith) (λ b. omega arith) (λ c. omega arith) (λ d. omega arith)
size-le w n fits = least-cases (λ u. size u ≤ size w) n (omega arith) (λ a. omega arith) (λ b. omega arith) (λ c. omega arith) (λ d. omega arith)

-- the shortest head of a number is no longer than any head of one that isn't smaller
short-le : (major w_major n m : ℕ) (w : HeadWidth) → n ≤ m → m < limit w → length (short major n) ≤ length (head w_major w m)
short-le major w_major n m w le fits =
    omega (arith, length-behind (least n) n, length-behind w m, size-le w n (omega arith))

-- ---- maps: a pair that is put in adds no more than its own bytes

put-le : (k v : Val) (ps : Pairs) → length (spell_pairs (canonical_pairs (put k v ps))) ≤ length (canon k) + length (canon v) + length (spell_pairs (canonical_pairs ps))
unfolding canon canonical spell
put-le k v no_pairs = omega (arith, length-append (canon k) (canon v ++ []), length-append (canon v) [])
put-le k v (pair l w ps) =
    let rest = put-le k v ps in
    let most = length (canon k) + length (canon v) + length (spell_pairs (canonical_pairs (pair l w ps))) in
    let parts = λ (a b : Val) (qs : Pairs). length-append (canon a) (canon b ++ spell_pairs (canonical_pairs qs)) in
    let parts' = λ (b : Val) (qs : Pairs). length-append (canon b) (spell_pairs (canonical_pairs qs)) in
    by_order-cases (λ (r : Pairs). length (spell_pairs (canonical_pairs r)) ≤ most) (val_cmp k l) _ _ _
    (λ less. omega (arith, parts k v (pair l w ps), parts' v (pair l w ps)))
    (λ same. omega (arith, parts k v ps, parts' v ps, parts l w ps, parts' w ps))
    (λ more. omega (arith, rest, parts l w (put k v ps), parts' w (put k v ps), parts l w ps, parts' w ps))

-- ---- items

simple-le : (s : Simple) → length (canon (simple_value s)) ≤ 1
unfolding canon canonical spell
simple-le false_item = omega arith
simple-le true_item = omega arith
simple-le null_item = omega arith
simple-le undefined_item = omega arith

mutual
  unfolding value canon canonical spell

  pub canon-le : (r : Raw) → IsWellFormed r → IsDefinite r → length (canon (value r)) ≤ length (spell r)
  canon-le (raw.unsigned w n) fits counted = short-le 0 0 n n w (omega arith) fits
  canon-le (raw.negative w n) fits counted = short-le 1 1 n n w (omega arith) fits
  canon-le (raw.bytes c) fits counted =
      let n = length c.bytes in
      omega (arith, short-le 2 2 n n c.width (omega arith) fits.0, length-append (short 2 n) c.bytes, length-append (head 2 c.width n) c.bytes)
  canon-le (raw.text c) fits counted =
      let n = length c.bytes in
      omega (arith, short-le 3 3 n n c.width (omega arith) fits.0, length-append (short 3 n) c.bytes, length-append (head 3 c.width n) c.bytes)
  canon-le (raw.bytes_chunks cs) fits counted = absurd counted
  canon-le (raw.text_chunks cs) fits counted = absurd counted
  canon-le (raw.array (definite w) rs) fits counted =
      let items = canonical_all (values rs) in
      let n = raw.count items in
      omega (arith, short-le 4 4 n (raw.count rs) w (count_values rs) fits.0, all_canon-le rs fits.1 counted.1, length-append (short 4 n) (spell_all items), length-append (head 4 w (raw.count rs)) (spell_all rs))
  canon-le (raw.array indefinite rs) fits counted = absurd counted.0
  canon-le (raw.map (definite w) ps) fits counted =
      let items = canonical_pairs (pairs ps no_pairs) in
      let n = raw.pair_count items in
      let fewer : n ≤ raw.pair_count ps = omega (arith, count_pairs ps no_pairs) in
      omega (arith, short-le 5 5 n (raw.pair_count ps) w fewer fits.0, pairs_canon-le ps no_pairs fits.1 counted.1, length-append (short 5 n) (spell_pairs items), length-append (head 5 w (raw.pair_count ps)) (spell_pairs ps))
  canon-le (raw.map indefinite ps) fits counted = absurd counted.0
  canon-le (raw.tag w n r) fits counted =
      omega (arith, short-le 6 6 n n w (omega arith) fits.0, canon-le r fits.1 counted, length-append (short 6 n) (canon (value r)), length-append (head 6 w n) (spell r))
  canon-le (raw.simple s) fits counted = simple-le s
  canon-le (raw.float w bits) fits counted = omega arith

  all_canon-le : (rs : Raws) → AreWellFormed rs → AreDefinite rs → length (spell_all (canonical_all (values rs))) ≤ length (spell_all rs)
  all_canon-le no_raws fits counted = omega arith
  all_canon-le (raw.raw r rs) fits counted =
      omega (arith, canon-le r fits.0 counted.0, all_canon-le rs fits.1 counted.1, length-append (canon (value r)) (spell_all (canonical_all (values rs))), length-append (spell r) (spell_all rs))

  -- put in after other pairs, of equal keys one pair stays
  pairs_canon-le : (ps : RawPairs) (before : Pairs) → ArePairsWellFormed ps → ArePairsDefinite ps
      → length (spell_pairs (canonical_pairs (pairs ps before))) ≤ length (spell_pairs ps) + length (spell_pairs (canonical_pairs before))
  pairs_canon-le no_raw_pairs before fits counted = omega arith
  pairs_canon-le (raw_pair k v ps) before fits counted =
      omega (
        arith,
        canon-le k fits.0 counted.0,
        canon-le v fits.1 counted.1,
        put-le (value k) (value v) before,
        pairs_canon-le ps (put (value k) (value v) before) fits.2 counted.2,
        length-append (spell k) (spell v ++ spell_pairs ps),
        length-append (spell v) (spell_pairs ps),
      )

pub least_spelling : (v : Val) (r : Raw) → IsWellFormed r → IsDefinite r → v ≡ value r → length (canon v) ≤ length (spell r)
least_spelling v r fits counted is = omega (arith, canon-le r fits counted, ap (λ (w : Val). length (canon w)) is)
