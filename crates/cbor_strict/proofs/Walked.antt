-- A walk over a spelling answers the first of the item's departures, or else goes past it.
use Rattle.std.proofs.Common.{◌≡◌, ℕ, zero, suc, ◌+◌, ◌-◌, ◌<◌, Bool, true, false, cond, ltb, eqb, List, [], ◌∷◌, ◌++◌, length, take, Option, Some, None, Ordering, Less, Equal, Greater, refl, sym, ap, ap₂, subst, ◌∙◌, append_assoc, arith}
use Rattle.std.specs.Int.{w16, w32, w64, to_be_bytes}
use Rattle.std.proofs.lemmas.Bool.{le-ltb, ne_eqb}
use Rattle.std.proofs.lemmas.List.{append-nil, length-append, take_at, drop_at}
use Rattle.cbor_model.specs.Head.{HeadWidth, limit, info, behind, head}
use Rattle.cbor_model.specs.Major.{major_of}
use Rattle.cbor_model.specs.Raw as raw
use Rattle.cbor_model.specs.Raw.{definite, indefinite, Raw, Raws, no_raws, RawPairs, no_raw_pairs, raw_pair, false_item, true_item, null_item, undefined_item, half, single, double, count, pair_count, depth, depth_all, depth_pairs, IsWellFormed, AreWellFormed, ArePairsWellFormed}
use Rattle.cbor_model.specs.Spelling.{spell, spell_all, spell_pairs}
use Rattle.cbor_model.specs.Order.{lex, val_cmp}
use Rattle.cbor_model.specs.Value.{value, by_order}
use Rattle.cbor_model.specs.Canonical.{IsStorable, canon}
use Rattle.cbor_model.specs.InRange.{IsInRange}
use Rattle.cbor_strict.specs.Departure.{floor, head_end, long_head, not_above, departures, all_departures, pair_departures}
use Rattle.cbor_strict.specs.Walk.{Walk, passed, departed, and_then, past, with_shortest, with_count, simple_walk, all_walk, above, pairs_walk, content_walk, walk}
use Rattle.cbor_model.proofs.reader.ReaderSteps.{info-below, width_of-info, number_behind_again, high_of, low_of}
use Rattle.cbor_model.proofs.reader.FirstBytes.{IsBegun, begun}
use Rattle.cbor_model.proofs.values.Storable.{storable}
use Rattle.cbor_model.proofs.values.InRange.{in_range}
use Rattle.cbor_model.proofs.order.ByteOrder.{byte_order}
use Rattle.cbor_strict.proofs.Clean.{clean}

-- of these departures the first is answered, by how many bytes of the total are left; or else these
-- bytes are left
abbrev pub Reports : ℕ → List ℕ → List ℕ → Walk → Type 0
Reports total [] rest w = w ≡ passed rest
Reports total (j ∷ js) rest w = (left : ℕ) × (j + left ≡ total) × (w ≡ departed left)

reports_then : (total : ℕ) (xs ys mid rest : List ℕ) (w : Walk) (go : List ℕ → Walk) → Reports total xs mid w → (xs ≡ [] → Reports total ys rest (go mid)) → Reports total (xs ++ ys) rest (and_then w go)
reports_then total [] ys mid rest w go one other = subst (λ (w : Walk). Reports total ys rest (and_then w go)) (sym one) (other refl)
reports_then total (j ∷ js) ys mid rest w go one other = (one.0, one.1, ap (λ (w : Walk). and_then w go) one.2)

-- what another walk reports that is equal
reports_same : (total : ℕ) (xs rest : List ℕ) (w u : Walk) → w ≡ u → Reports total xs rest u → Reports total xs rest w
reports_same total xs rest w u same reports = subst (λ (w : Walk). Reports total xs rest w) (sym same) reports

-- with nothing after it
reports_bare : (total : ℕ) (xs rest : List ℕ) (w : Walk) → Reports total (xs ++ []) rest w → Reports total xs rest w
reports_bare total xs rest w reports = subst (λ (zs : List ℕ). Reports total zs rest w) (append-nil xs) reports

-- ---- heads

-- a head's end, before these bytes
ends_before : (at major : ℕ) (w : HeadWidth) (n : ℕ) (bs : List ℕ) (total : ℕ) → at + length (head major w n ++ bs) ≡ total → head_end at major w n + length bs ≡ total
ends_before at major w n bs total is = omega (arith, length-append (head major w n) bs, is)

module _ (go : ℕ → List ℕ → Walk) (at major : ℕ) (w : HeadWidth) (n : ℕ) (fits : n < limit w) (ys bs rest : List ℕ) (total : ℕ)
    (is : at + length (head major w n ++ bs) ≡ total)
    (reports : Reports total ys rest (go n bs))
  where
    shortest_reports : Reports total (long_head at major w n ++ ys) rest (with_shortest go (info w n) (behind w n ++ bs))
    shortest_reports = rw (number_behind_again w n bs fits, width_of-info w n fits) (by_test (ltb n (floor w)))
      where
        by_test : (long : Bool) → Reports total (cond long (head_end at major w n ∷ []) [] ++ ys) rest (cond long (departed (length bs)) (go n bs))
        by_test true = (length bs, ends_before at major w n bs total is, refl)
        by_test false = reports

    count_reports : Reports total (long_head at major w n ++ ys) rest (with_count go (info w n) (behind w n ++ bs))
    count_reports =
        let not_31 : eqb (info w n) 31 ≡ false = ne_eqb (info w n) 31 (λ same. omega (arith, info-below w n fits)) in
        rw not_31 shortest_reports

-- past a head, the walk is at the content
at_content : (fuel major : ℕ) (w : HeadWidth) (n : ℕ) (bs : List ℕ) → n < limit w → walk (suc fuel) (head major w n ++ bs) ≡ content_walk (walk fuel) (major_of major) (info w n) (behind w n ++ bs)
unfolding walk
at_content fuel major w n bs fits =
    let small : info w n < 32 = omega (arith, info-below w n fits) in
    rw (high_of major (info w n) small, low_of major (info w n) small) refl

past_again : (b rest : List ℕ) → past (length b) (b ++ rest) ≡ passed rest
past_again b rest = rw (le-ltb (length (b ++ rest)) (length b) (omega (arith, length-append b rest)), drop_at b rest (length b) refl) refl

-- a head, content and others after it
regrouped : (total at : ℕ) (a b rest : List ℕ) → at + length ((a ++ b) ++ rest) ≡ total → at + length (a ++ (b ++ rest)) ≡ total
regrouped total at a b rest is = ap (λ (t : List ℕ). at + length t) (sym (append_assoc a b rest)) ∙ is

-- what follows a head
behind_end : (at : ℕ) (a bs : List ℕ) (total : ℕ) → at + length (a ++ bs) ≡ total → at + length a + length bs ≡ total
behind_end at a bs total is = omega (arith, length-append a bs, is)

-- ---- keys

-- the bytes of the key before, and that it is canonical
abbrev pub key_bytes : Option Raw → List ℕ
key_bytes None = []
key_bytes (Some l) = spell l

abbrev pub IsKey : Option Raw → Type 0
IsKey None = Unit {0}
IsKey (Some l) = IsStorable (value l) × IsInRange (value l) × (spell l ≡ canon (value l))

pub clean_key : (at : ℕ) (k : Raw) → IsWellFormed k → departures at k ≡ [] → IsKey (Some k)
unfolding canon
clean_key at k fits none =
    let same = clean at k fits none in
    (storable k fits, in_range (value k) (subst IsWellFormed same fits), ap spell same)

-- keys without departures compare by their bytes as their values do
pub keys_compare : (l k : Raw) → IsKey (Some l) → IsKey (Some k) → lex (spell l) (spell k) ≡ val_cmp (value l) (value k)
keys_compare l k one other =
    ap₂ lex one.2 other.2 ∙ sym (byte_order (value l) (value k) one.0 other.0 one.1 other.1)

none_below : (bs : List ℕ) → IsBegun bs → lex [] bs ≡ Less
none_below bs starts = rw starts.is refl

module _ (end left total : ℕ) (is : end + left ≡ total) (ys rest : List ℕ) (others : Walk) (reports : Reports total ys rest others) where
  order_reports : (o : Ordering) → Reports total (by_order o [] (end ∷ []) (end ∷ []) ++ ys) rest (by_order o others (departed left) (departed left))
  order_reports Less = reports
  order_reports Equal = (left, is, refl)
  order_reports Greater = (left, is, refl)

  key_reports : (before : Option Raw) (k : Raw) → IsKey before → IsKey (Some k) → IsBegun (spell k) → Reports total (not_above end before k ++ ys) rest (above (key_bytes before) (spell k) left others)
  key_reports None k before_is is starts = rw (none_below (spell k) starts) reports
  key_reports (Some l) k before_is is starts = rw (keys_compare l k before_is is) (order_reports (val_cmp (value l) (value k)))

-- the key that stands before the rest
key_taken : (k rest : List ℕ) → take (length (k ++ rest) - length rest) (k ++ rest) ≡ k
key_taken k rest = take_at k rest (length (k ++ rest) - length rest) (omega (arith, length-append k rest))

pair_parts : (k v more rest : List ℕ) → (k ++ (v ++ more)) ++ rest ≡ k ++ (v ++ (more ++ rest))
pair_parts k v more rest = simp append_assoc

-- ---- items

mutual
  unfolding spell departures content_walk all_walk pairs_walk walk simple_walk

  pub walked : (r : Raw) (fuel at : ℕ) (rest : List ℕ) (total : ℕ) → IsWellFormed r → depth r < fuel → at + length (spell r ++ rest) ≡ total → Reports total (departures at r) rest (walk fuel (spell r ++ rest))
  walked r zero at rest total fits nests is = absurd (omega arith)
  walked (raw.unsigned w n) (suc fuel) at rest total fits nests is =
      rw (at_content fuel 0 w n rest fits) (reports_bare total (long_head at 0 w n) rest _ (shortest_reports (λ n bs. passed bs) at 0 w n fits [] rest rest total is refl))
  walked (raw.negative w n) (suc fuel) at rest total fits nests is =
      rw (at_content fuel 1 w n rest fits) (reports_bare total (long_head at 1 w n) rest _ (shortest_reports (λ n bs. passed bs) at 1 w n fits [] rest rest total is refl))
  walked (raw.bytes c) (suc fuel) at rest total fits nests is =
      let w = c.width in
      let n = length c.bytes in
      let front = head 2 w n in
      reports_same total (long_head at 2 w n) rest _ _ (ap (walk (suc fuel)) (append_assoc front c.bytes rest) ∙ at_content fuel 2 w n (c.bytes ++ rest) fits.0)
      (reports_bare total (long_head at 2 w n) rest _ (count_reports past at 2 w n fits.0 [] (c.bytes ++ rest) rest total (regrouped total at front c.bytes rest is) (past_again c.bytes rest)))
  walked (raw.text c) (suc fuel) at rest total fits nests is =
      let w = c.width in
      let n = length c.bytes in
      let front = head 3 w n in
      reports_same total (long_head at 3 w n) rest _ _ (ap (walk (suc fuel)) (append_assoc front c.bytes rest) ∙ at_content fuel 3 w n (c.bytes ++ rest) fits.0)
      (reports_bare total (long_head at 3 w n) rest _ (count_reports past at 3 w n fits.0 [] (c.bytes ++ rest) rest total (regrouped total at front c.bytes rest is) (past_again c.bytes rest)))
  walked (raw.bytes_chunks cs) (suc fuel) at rest total fits nests is = (_, omega (arith, is), refl)
  walked (raw.text_chunks cs) (suc fuel) at rest total fits nests is = (_, omega (arith, is), refl)
  walked (raw.array (definite w) rs) (suc fuel) at rest total fits nests is =
      let n = count rs in
      let front = head 4 w n in
      let items = spell_all rs in
      let within = regrouped total at front items rest is in
      let inside = all_walked rs fuel (head_end at 4 w n) rest total fits.1 (omega (arith, nests)) (behind_end at front (items ++ rest) total within) in
      reports_same total (long_head at 4 w n ++ all_departures (head_end at 4 w n) rs) rest _ _ (ap (walk (suc fuel)) (append_assoc front items rest) ∙ at_content fuel 4 w n (items ++ rest) fits.0)
      (count_reports (all_walk (walk fuel)) at 4 w n fits.0 (all_departures (head_end at 4 w n) rs) (items ++ rest) rest total within inside)
  walked (raw.array indefinite rs) (suc fuel) at rest total fits nests is = (_, omega (arith, is), refl)
  walked (raw.map (definite w) ps) (suc fuel) at rest total fits nests is =
      let n = pair_count ps in
      let front = head 5 w n in
      let items = spell_pairs ps in
      let within = regrouped total at front items rest is in
      let inside = pairs_walked ps None fuel (head_end at 5 w n) rest total fits.1 (omega (arith, nests)) tt (behind_end at front (items ++ rest) total within) in
      reports_same total (long_head at 5 w n ++ pair_departures (head_end at 5 w n) None ps) rest _ _ (ap (walk (suc fuel)) (append_assoc front items rest) ∙ at_content fuel 5 w n (items ++ rest) fits.0)
      (count_reports (λ n. pairs_walk (walk fuel) n []) at 5 w n fits.0 (pair_departures (head_end at 5 w n) None ps) (items ++ rest) rest total within inside)
  walked (raw.map indefinite ps) (suc fuel) at rest total fits nests is = (_, omega (arith, is), refl)
  walked (raw.tag w n r) (suc fuel) at rest total fits nests is =
      let front = head 6 w n in
      let item = spell r in
      let within = regrouped total at front item rest is in
      let inside = walked r fuel (head_end at 6 w n) rest total fits.1 (omega (arith, nests)) (behind_end at front (item ++ rest) total within) in
      reports_same total (long_head at 6 w n ++ departures (head_end at 6 w n) r) rest _ _ (ap (walk (suc fuel)) (append_assoc front item rest) ∙ at_content fuel 6 w n (item ++ rest) fits.0)
      (shortest_reports (λ n. walk fuel) at 6 w n fits.0 (departures (head_end at 6 w n) r) (item ++ rest) rest total within inside)
  walked (raw.simple false_item) (suc fuel) at rest total fits nests is = refl
  walked (raw.simple true_item) (suc fuel) at rest total fits nests is = refl
  walked (raw.simple null_item) (suc fuel) at rest total fits nests is = refl
  walked (raw.simple undefined_item) (suc fuel) at rest total fits nests is = (_, omega (arith, is), refl)
  walked (raw.float half bits) (suc fuel) at rest total fits nests is = past_again (to_be_bytes w16 bits) rest
  walked (raw.float single bits) (suc fuel) at rest total fits nests is = past_again (to_be_bytes w32 bits) rest
  walked (raw.float double bits) (suc fuel) at rest total fits nests is = past_again (to_be_bytes w64 bits) rest

  all_walked : (rs : Raws) (fuel at : ℕ) (rest : List ℕ) (total : ℕ) → AreWellFormed rs → depth_all rs < fuel → at + length (spell_all rs ++ rest) ≡ total → Reports total (all_departures at rs) rest (all_walk (walk fuel) (count rs) (spell_all rs ++ rest))
  all_walked no_raws fuel at rest total fits nests is = refl
  all_walked (raw.raw r rs) fuel at rest total fits nests is =
      let one = spell r in
      let items = spell_all rs in
      let more = items ++ rest in
      let within = regrouped total at one items rest is in
      rw (append_assoc one items rest)
      (reports_then total (departures at r) (all_departures (at + length one) rs) more rest (walk fuel (one ++ more)) (all_walk (walk fuel) (count rs))
      (walked r fuel at more total fits.0 (omega (arith, nests)) within)
      (λ none. all_walked rs fuel (at + length one) rest total fits.1 (omega (arith, nests)) (behind_end at one more total within)))

  pairs_walked : (ps : RawPairs) (before : Option Raw) (fuel at : ℕ) (rest : List ℕ) (total : ℕ) → ArePairsWellFormed ps → depth_pairs ps < fuel → IsKey before → at + length (spell_pairs ps ++ rest) ≡ total → Reports total (pair_departures at before ps) rest (pairs_walk (walk fuel) (pair_count ps) (key_bytes before) (spell_pairs ps ++ rest))
  pairs_walked no_raw_pairs before fuel at rest total fits nests before_is is = refl
  pairs_walked (raw_pair k v ps) before fuel at rest total fits nests before_is is =
      let p = walk fuel in
      let key = spell k in
      let one = spell v in
      let more = spell_pairs ps ++ rest in
      let at_value = one ++ more in
      let here = at + length key in
      let there = at + length key + length one in
      let within : at + length (key ++ at_value) ≡ total = ap (λ (t : List ℕ). at + length t) (sym (pair_parts key one (spell_pairs ps) rest)) ∙ is in
      let within_value : here + length at_value ≡ total = behind_end at key at_value total within in
      let within_more : there + length more ≡ total = behind_end here one more total within_value in
      let n = pair_count ps in
      rw (pair_parts key one (spell_pairs ps) rest)
      (reports_then total (departures at k) (not_above here before k ++ (departures here v ++ pair_departures there (Some k) ps)) at_value rest (p (key ++ at_value)) _
      (walked k fuel at at_value total fits.0 (omega (arith, nests)) within)
      (λ none.
      let key_is = clean_key at k fits.0 none in
      subst (λ (t : List ℕ). Reports total (not_above here before k ++ (departures here v ++ pair_departures there (Some k) ps)) rest (above (key_bytes before) t (length at_value) (and_then (p at_value) (pairs_walk p n t)))) (sym (key_taken key at_value))
      (key_reports here (length at_value) total within_value (departures here v ++ pair_departures there (Some k) ps) rest (and_then (p at_value) (pairs_walk p n key))
      (reports_then total (departures here v) (pair_departures there (Some k) ps) more rest (p at_value) (pairs_walk p n key)
      (walked v fuel here more total fits.1 (omega (arith, nests)) within_value)
      (λ none'. pairs_walked ps (Some k) fuel there rest total fits.2 (omega (arith, nests)) key_is within_more))
      before k before_is key_is (begun k fits.0))))
