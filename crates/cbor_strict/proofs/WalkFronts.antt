-- What a walk answers where more bytes follow: the same, if it ends before them.
use Rattle.std.proofs.Common.{◌≡◌, ℕ, zero, suc, ◌+◌, ◌-◌, ◌/◌, ◌%◌, ◌<◌, ◌≤◌, Bool, true, false, cond, ltb, eqb, List, [], ◌∷◌, ◌++◌, length, take, drop, Ok, Err, Less, Equal, Greater, Ordering, refl, sym, ap, subst, ◌∙◌, arith}
use Rattle.std.specs.Int.{Width, w8, w16, w32, w64, byte_len, from_be_bytes}
use Rattle.std.proofs.lemmas.Bool.{ltb-true, ltb-false, le-ltb}
use Rattle.std.proofs.lemmas.List.{length-append, length-drop, drop-append-le, take-append-le}
use Rattle.cbor_model.specs.Head.{HeadWidth}
use Rattle.cbor_model.specs.Major.{Major, major_of, unsigned, negative, bytes, text, array, map, tag, simple}
use Rattle.cbor_model.specs.Order.{lex}
use Rattle.cbor_model.specs.Value.{by_order}
use Rattle.cbor_model.specs.Reader.{Reads, ended, number_at, number_behind, width_of}
use Rattle.cbor_strict.specs.Departure.{floor}
use Rattle.cbor_strict.specs.Walk.{Walk, passed, departed, stopped, and_then, past, on_shortest, with_shortest, with_count, simple_walk, all_walk, above, pairs_walk, content_walk, walk}
use Rattle.cbor_model.proofs.reader.BytesTaken.{Leaves}
use Rattle.cbor_strict.proofs.Copied.{number_behind_leaves}

-- ---- fewer bytes are left than these

abbrev pub Below : ℕ → Walk → Type 0
Below n (passed rest) = length rest < n
Below n (departed left) = left < n
Below n stopped = Unit {0}

-- no step leaves more bytes than it began with
abbrev pub Few : (List ℕ → Walk) → Type 0
Few go = (n : ℕ) (bs : List ℕ) → length bs < n → Below n (go bs)

below_then : (n : ℕ) (w : Walk) (go : List ℕ → Walk) → Below n w → ((bs : List ℕ) → length bs < n → Below n (go bs)) → Below n (and_then w go)
below_then n (passed bs) go few each = each bs few
below_then n (departed left) go few each = few
below_then n stopped go few each = tt

below_cond : (n : ℕ) (b : Bool) (w u : Walk) → Below n w → Below n u → Below n (cond b w u)
below_cond n true w u one other = one
below_cond n false w u one other = other

past_few : (k : ℕ) → Few (past k)
past_few k n bs few = below_cond n (ltb (length bs) k) _ _ tt (omega (arith, length-drop k bs))

read_few : (go : ℕ → List ℕ → Walk) → ((k : ℕ) → Few (go k)) → (w : HeadWidth) (r : Reads ℕ) (n m : ℕ) → Leaves m r → m < n → Below n (on_shortest go w r)
read_few go each w (Ok x) n m leaves few = below_cond n (ltb x.0 (floor w)) _ _ (omega (arith, leaves)) (each x.0 n x.1 (omega (arith, leaves)))
read_few go each w (Err d) n m leaves few = tt

shortest_few : (go : ℕ → List ℕ → Walk) → ((k : ℕ) → Few (go k)) → (low : ℕ) → Few (with_shortest go low)
shortest_few go each low n bs few = read_few go each (width_of low) (number_behind low bs) n (length bs) (number_behind_leaves low (length bs) bs (omega arith)) few

count_few : (go : ℕ → List ℕ → Walk) → ((k : ℕ) → Few (go k)) → (low : ℕ) → Few (with_count go low)
count_few go each low n bs few = below_cond n (eqb low 31) _ _ few (shortest_few go each low n bs few)

simple_few : (low : ℕ) → Few (simple_walk low)
unfolding simple_walk
simple_few low n bs few =
    below_cond n (eqb low 20) _ _ few
    (below_cond n (eqb low 21) _ _ few
    (below_cond n (eqb low 22) _ _ few
    (below_cond n (eqb low 23) _ _ few
    (below_cond n (eqb low 25) _ _ (past_few 2 n bs few)
    (below_cond n (eqb low 26) _ _ (past_few 4 n bs few)
    (below_cond n (eqb low 27) _ _ (past_few 8 n bs few) tt))))))

above_few : (n left : ℕ) (o : Ordering) (w : Walk) → left < n → Below n w → Below n (by_order o w (departed left) (departed left))
above_few n left Less w few is = is
above_few n left Equal w few is = few
above_few n left Greater w few is = few

module _ (p : List ℕ → Walk) (few : Few p) where
  all_few : (k : ℕ) → Few (all_walk p k)
  unfolding all_walk
  all_few zero n bs is = is
  all_few (suc k) n bs is = below_then n (p bs) (all_walk p k) (few n bs is) (all_few k n)

  pairs_few : (k : ℕ) (before : List ℕ) → Few (pairs_walk p k before)
  unfolding pairs_walk
  pairs_few zero before n bs is = is
  pairs_few (suc k) before n bs is =
      below_then n (p bs) _ (few n bs is) (λ at_value is'.
      above_few n (length at_value) (lex before (take (length bs - length at_value) bs)) _ is'
      (below_then n (p at_value) _ (few n at_value is') (λ more is''. pairs_few k (take (length bs - length at_value) bs) n more is'')))

  content_few : (t : Major) (low : ℕ) → Few (content_walk p t low)
  unfolding content_walk
  content_few unsigned low = shortest_few (λ n bs. passed bs) (λ k n bs is. is) low
  content_few negative low = shortest_few (λ n bs. passed bs) (λ k n bs is. is) low
  content_few bytes low = count_few past past_few low
  content_few text low = count_few past past_few low
  content_few array low = count_few (all_walk p) all_few low
  content_few map low = count_few (λ n. pairs_walk p n []) (λ k. pairs_few k []) low
  content_few tag low = shortest_few (λ n. p) (λ k. few) low
  content_few simple low = simple_few low

pub walk_few : (fuel : ℕ) → Few (walk fuel)
unfolding walk
walk_few zero n bs is = tt
walk_few (suc fuel) n [] is = tt
walk_few (suc fuel) n (b ∷ bs) is = content_few (walk fuel) (walk_few fuel) (major_of (b / 32)) (b % 32) n bs (omega arith)

-- an item takes a byte at the least
pub walk_fewer : (fuel : ℕ) (bs : List ℕ) → Below (length bs) (walk fuel bs)
unfolding walk
walk_fewer zero bs = tt
walk_fewer (suc fuel) [] = tt
walk_fewer (suc fuel) (b ∷ bs) = content_few (walk fuel) (walk_few fuel) (major_of (b / 32)) (b % 32) (suc (length bs)) bs (omega arith)

-- ---- with these bytes after

-- the same, with y after; where the walk stopped, it may end within y
abbrev pub Goes : List ℕ → Walk → Walk → Type 0
Goes y (passed mid) u = u ≡ passed (mid ++ y)
Goes y (departed left) u = u ≡ departed (left + length y)
Goes y stopped u = Below (length y) u

abbrev pub Local : List ℕ → (List ℕ → Walk) → Type 0
Local y go = (bs : List ℕ) → Goes y (go bs) (go (bs ++ y))

module _ (y : List ℕ) where
  goes_then : (w u : Walk) (go go' : List ℕ → Walk) → Goes y w u → ((mid : List ℕ) → w ≡ passed mid → Goes y (go mid) (go' (mid ++ y))) → ((bs : List ℕ) → length bs < length y → Below (length y) (go' bs)) → Goes y (and_then w go) (and_then u go')
  goes_then (passed mid) u go go' is each few = subst (λ (u : Walk). Goes y (go mid) (and_then u go')) (sym is) (each mid refl)
  goes_then (departed left) u go go' is each few = ap (λ (u : Walk). and_then u go') is
  goes_then stopped u go go' is each few = below_then (length y) u go' is few

  goes_cond : (b : Bool) (w w' u u' : Walk) → Goes y w w' → Goes y u u' → Goes y (cond b w u) (cond b w' u')
  goes_cond true w w' u u' one other = one
  goes_cond false w w' u u' one other = other

  departs_local : (bs : List ℕ) → departed (length (bs ++ y)) ≡ departed (length bs + length y)
  departs_local bs = ap departed (length-append bs y)

  -- where there are too few bytes, those after are used too
  past_beyond : (n : ℕ) (bs : List ℕ) → length bs < n → Below (length y) (past n (bs ++ y))
  past_beyond n bs too_few = by_test (ltb (length (bs ++ y)) n) refl
    where
      by_test : (b : Bool) → ltb (length (bs ++ y)) n ≡ b → Below (length y) (cond b stopped (passed (drop n (bs ++ y))))
      by_test true is = tt
      by_test false is = omega (arith, ltb-false (length (bs ++ y)) n is, too_few, length-append bs y, length-drop n (bs ++ y))

  past_local : (n : ℕ) → Local y (past n)
  past_local n bs = by_test (ltb (length bs) n) refl
    where
      by_test : (b : Bool) → ltb (length bs) n ≡ b → Goes y (cond b stopped (passed (drop n bs))) (past n (bs ++ y))
      by_test true is = past_beyond n bs (ltb-true (length bs) n is)
      by_test false is =
          let enough = ltb-false (length bs) n is in
          rw (le-ltb (length (bs ++ y)) n (omega (arith, length-append bs y, enough)), drop-append-le n bs y enough) refl

  -- a number that is read, likewise
  abbrev LeavesFewer : Reads ℕ → Type 0
  LeavesFewer (Ok x) = length x.1 < length y
  LeavesFewer (Err d) = Unit {0}

  abbrev ReadsOn : Reads ℕ → Reads ℕ → Type 0
  ReadsOn (Ok x) s = s ≡ Ok (x.0, x.1 ++ y)
  ReadsOn (Err d) s = LeavesFewer s

  number_beyond : (w : Width) (bs : List ℕ) → length bs < byte_len w → LeavesFewer (number_at w (bs ++ y))
  number_beyond w bs too_few = by_test (ltb (length (bs ++ y)) (byte_len w)) refl
    where
      by_test : (b : Bool) → ltb (length (bs ++ y)) (byte_len w) ≡ b → LeavesFewer (cond b (Err ended) (Ok (from_be_bytes w (take (byte_len w) (bs ++ y)), drop (byte_len w) (bs ++ y))))
      by_test true is = tt
      by_test false is = omega (arith, ltb-false (length (bs ++ y)) (byte_len w) is, too_few, length-append bs y, length-drop (byte_len w) (bs ++ y))

  number_on : (w : Width) (bs : List ℕ) → ReadsOn (number_at w bs) (number_at w (bs ++ y))
  number_on w bs = by_test (ltb (length bs) (byte_len w)) refl
    where
      by_test : (b : Bool) → ltb (length bs) (byte_len w) ≡ b → ReadsOn (cond b (Err ended) (Ok (from_be_bytes w (take (byte_len w) bs), drop (byte_len w) bs))) (number_at w (bs ++ y))
      by_test true is = number_beyond w bs (ltb-true (length bs) (byte_len w) is)
      by_test false is =
          let enough = ltb-false (length bs) (byte_len w) is in
          rw (le-ltb (length (bs ++ y)) (byte_len w) (omega (arith, length-append bs y, enough)), take-append-le (byte_len w) bs y enough, drop-append-le (byte_len w) bs y enough) refl

  reads_cond : (b : Bool) (r r' s s' : Reads ℕ) → ReadsOn r r' → ReadsOn s s' → ReadsOn (cond b r s) (cond b r' s')
  reads_cond true r r' s s' one other = one
  reads_cond false r r' s s' one other = other

  number_behind_on : (low : ℕ) (bs : List ℕ) → ReadsOn (number_behind low bs) (number_behind low (bs ++ y))
  unfolding number_behind
  number_behind_on low bs =
      reads_cond (ltb low 24) _ _ _ _ refl
      (reads_cond (eqb low 24) _ _ _ _ (number_on w8 bs)
      (reads_cond (eqb low 25) _ _ _ _ (number_on w16 bs)
      (reads_cond (eqb low 26) _ _ _ _ (number_on w32 bs)
      (reads_cond (eqb low 27) _ _ _ _ (number_on w64 bs) tt))))

  module _ (go : ℕ → List ℕ → Walk) (each : (k : ℕ) → Local y (go k)) (few : (k : ℕ) → Few (go k)) where
    read_local : (w : HeadWidth) (r s : Reads ℕ) → ReadsOn r s → Goes y (on_shortest go w r) (on_shortest go w s)
    read_local w (Ok x) s on =
        subst (λ (s : Reads ℕ). Goes y (on_shortest go w (Ok x)) (on_shortest go w s)) (sym on)
        (goes_cond (ltb x.0 (floor w)) _ _ _ _ (departs_local x.1) (each x.0 x.1))
    read_local w (Err d) s on = fewer s on
      where
        fewer : (s : Reads ℕ) → LeavesFewer s → Below (length y) (on_shortest go w s)
        fewer (Ok x) on = below_cond (length y) (ltb x.0 (floor w)) _ _ on (few x.0 (length y) x.1 on)
        fewer (Err d) on = tt

    shortest_local : (low : ℕ) → Local y (with_shortest go low)
    shortest_local low bs = read_local (width_of low) (number_behind low bs) (number_behind low (bs ++ y)) (number_behind_on low bs)

    count_local : (low : ℕ) → Local y (with_count go low)
    count_local low bs = goes_cond (eqb low 31) _ _ _ _ (departs_local bs) (shortest_local low bs)

  simple_local : (low : ℕ) → Local y (simple_walk low)
  unfolding simple_walk
  simple_local low bs =
      goes_cond (eqb low 20) _ _ _ _ refl
      (goes_cond (eqb low 21) _ _ _ _ refl
      (goes_cond (eqb low 22) _ _ _ _ refl
      (goes_cond (eqb low 23) _ _ _ _ (departs_local bs)
      (goes_cond (eqb low 25) _ _ _ _ (past_local 2 bs)
      (goes_cond (eqb low 26) _ _ _ _ (past_local 4 bs)
      (goes_cond (eqb low 27) _ _ _ _ (past_local 8 bs) tt))))))

  above_local : (o : Ordering) (mid : List ℕ) (w u : Walk) → Goes y w u → Goes y (by_order o w (departed (length mid)) (departed (length mid))) (by_order o u (departed (length (mid ++ y))) (departed (length (mid ++ y))))
  above_local Less mid w u one = one
  above_local Equal mid w u one = departs_local mid
  above_local Greater mid w u one = departs_local mid

  -- a key is the same bytes
  key_same : (bs mid : List ℕ) → length mid ≤ length bs → take (length (bs ++ y) - length (mid ++ y)) (bs ++ y) ≡ take (length bs - length mid) bs
  key_same bs mid le =
      let n : length (bs ++ y) - length (mid ++ y) ≡ length bs - length mid = omega (arith, length-append bs y, length-append mid y) in
      ap (λ (n : ℕ). take n (bs ++ y)) n ∙ take-append-le (length bs - length mid) bs y (omega arith)

  module _ (p : List ℕ → Walk) (few : Few p) (each : Local y p) where
    all_local : (k : ℕ) → Local y (all_walk p k)
    unfolding all_walk
    all_local zero bs = refl
    all_local (suc k) bs = goes_then (p bs) (p (bs ++ y)) (all_walk p k) (all_walk p k) (each bs) (λ mid is. all_local k mid) (all_few p few k (length y))

    pairs_local : (k : ℕ) (before : List ℕ) → Local y (pairs_walk p k before)
    unfolding pairs_walk
    pairs_local zero before bs = refl
    pairs_local (suc k) before bs =
        goes_then (p bs) (p (bs ++ y)) _ _ (each bs)
        (λ mid is.
        let le : length mid ≤ length bs = left_of mid is in
        subst (λ (key : List ℕ). Goes y (above before (take (length bs - length mid) bs) (length mid) (and_then (p mid) (pairs_walk p k (take (length bs - length mid) bs)))) (above before key (length (mid ++ y)) (and_then (p (mid ++ y)) (pairs_walk p k key)))) (sym (key_same bs mid le))
        (above_local (lex before (take (length bs - length mid) bs)) mid _ _
        (goes_then (p mid) (p (mid ++ y)) _ _ (each mid) (λ more is'. pairs_local k (take (length bs - length mid) bs) more) (pairs_few p few k (take (length bs - length mid) bs) (length y)))))
        (λ at_value fewer.
        let key = take (length (bs ++ y) - length at_value) (bs ++ y) in
        above_few (length y) (length at_value) (lex before key) _ fewer
        (below_then (length y) (p at_value) _ (few (length y) at_value fewer) (λ more fewer'. pairs_few p few k key (length y) more fewer')))
      where
        left_of : (mid : List ℕ) → p bs ≡ passed mid → length mid ≤ length bs
        left_of mid is =
            let lt : length mid < suc (length bs) = subst (Below (suc (length bs))) is (few (suc (length bs)) bs (omega arith)) in
            omega arith

    content_local : (t : Major) (low : ℕ) → Local y (content_walk p t low)
    unfolding content_walk
    content_local unsigned low = shortest_local (λ n bs. passed bs) (λ k bs. refl) (λ k n bs is. is) low
    content_local negative low = shortest_local (λ n bs. passed bs) (λ k bs. refl) (λ k n bs is. is) low
    content_local bytes low = count_local past past_local past_few low
    content_local text low = count_local past past_local past_few low
    content_local array low = count_local (all_walk p) all_local (all_few p few) low
    content_local map low = count_local (λ n. pairs_walk p n []) (λ k. pairs_local k []) (λ k. pairs_few p few k []) low
    content_local tag low = shortest_local (λ n. p) (λ k. each) (λ k. few) low
    content_local simple low = simple_local low

  pub walk_local : (fuel : ℕ) → Local y (walk fuel)
  unfolding walk
  walk_local zero bs = tt
  walk_local (suc fuel) [] = walk_fewer (suc fuel) y
  walk_local (suc fuel) (b ∷ bs) = content_local (walk fuel) (walk_few fuel) (walk_local fuel) (major_of (b / 32)) (b % 32) bs

-- ---- with more fuel

then_same : (w : Walk) (go go' : List ℕ → Walk) → ((mid : List ℕ) → w ≡ passed mid → go mid ≡ go' mid) → and_then w go ≡ and_then w go'
then_same (passed mid) go go' each = each mid refl
then_same (departed left) go go' each = refl
then_same stopped go go' each = refl

module _ (p q : List ℕ → Walk) (few : Few p) (m : ℕ) (same : (bs : List ℕ) → length bs < m → p bs ≡ q bs) where
  -- what p passes is no more than it began with
  fewer : (bs mid : List ℕ) → length bs < m → p bs ≡ passed mid → length mid < m
  fewer bs mid lt is = subst (Below m) is (few m bs lt)

  all_same : (k : ℕ) (bs : List ℕ) → length bs < m → all_walk p k bs ≡ all_walk q k bs
  unfolding all_walk
  all_same zero bs lt = refl
  all_same (suc k) bs lt = then_same (p bs) _ _ (λ mid is. all_same k mid (fewer bs mid lt is)) ∙ ap (λ (w : Walk). and_then w (all_walk q k)) (same bs lt)

  pairs_same : (k : ℕ) (before bs : List ℕ) → length bs < m → pairs_walk p k before bs ≡ pairs_walk q k before bs
  unfolding pairs_walk
  pairs_same zero before bs lt = refl
  pairs_same (suc k) before bs lt =
      then_same (p bs) _ _ (λ mid is.
      let key = take (length bs - length mid) bs in
      let lt' = fewer bs mid lt is in
      ap (above before key (length mid)) (then_same (p mid) _ _ (λ more is'. pairs_same k key more (fewer mid more lt' is')) ∙ ap (λ (w : Walk). and_then w (pairs_walk q k key)) (same mid lt')))
      ∙ ap (λ (w : Walk). and_then w (λ at_value. above before (take (length bs - length at_value) bs) (length at_value) (and_then (q at_value) (pairs_walk q k (take (length bs - length at_value) bs))))) (same bs lt)

  shortest_same : (go go' : ℕ → List ℕ → Walk) → ((k : ℕ) (bs : List ℕ) → length bs < m → go k bs ≡ go' k bs) → (low : ℕ) (bs : List ℕ) → length bs < m → with_shortest go low bs ≡ with_shortest go' low bs
  shortest_same go go' each low bs lt = by_read (number_behind low bs) (number_behind_leaves low (length bs) bs (omega arith))
    where
      by_read : (r : Reads ℕ) → Leaves (length bs) r → on_shortest go (width_of low) r ≡ on_shortest go' (width_of low) r
      by_read (Ok x) leaves = ap (cond (ltb x.0 (floor (width_of low))) (departed (length x.1))) (each x.0 x.1 (omega (arith, leaves, lt)))
      by_read (Err d) leaves = refl

  count_same : (go go' : ℕ → List ℕ → Walk) → ((k : ℕ) (bs : List ℕ) → length bs < m → go k bs ≡ go' k bs) → (low : ℕ) (bs : List ℕ) → length bs < m → with_count go low bs ≡ with_count go' low bs
  count_same go go' each low bs lt = ap (cond (eqb low 31) (departed (length bs))) (shortest_same go go' each low bs lt)

  content_same : (t : Major) (low : ℕ) (bs : List ℕ) → length bs < m → content_walk p t low bs ≡ content_walk q t low bs
  unfolding content_walk
  content_same unsigned low bs lt = refl
  content_same negative low bs lt = refl
  content_same bytes low bs lt = refl
  content_same text low bs lt = refl
  content_same array low bs lt = count_same (all_walk p) (all_walk q) all_same low bs lt
  content_same map low bs lt = count_same (λ n. pairs_walk p n []) (λ n. pairs_walk q n []) (λ k. pairs_same k []) low bs lt
  content_same tag low bs lt = shortest_same (λ n. p) (λ n. q) (λ k. same) low bs lt
  content_same simple low bs lt = refl

-- fuel above the number of bytes changes nothing
pub walk_fuel : (f g : ℕ) (bs : List ℕ) → length bs ≤ f → length bs ≤ g → walk f bs ≡ walk g bs
unfolding walk
walk_fuel zero zero bs enough enough' = refl
walk_fuel zero (suc g) [] enough enough' = refl
walk_fuel zero (suc g) (b ∷ bs) enough enough' = absurd (omega arith)
walk_fuel (suc f) zero [] enough enough' = refl
walk_fuel (suc f) zero (b ∷ bs) enough enough' = absurd (omega arith)
walk_fuel (suc f) (suc g) [] enough enough' = refl
walk_fuel (suc f) (suc g) (b ∷ bs) enough enough' =
    content_same (walk f) (walk g) (walk_few f) (suc (length bs)) (λ cs lt. walk_fuel f g cs (omega arith) (omega arith)) (major_of (b / 32)) (b % 32) bs (omega arith)
