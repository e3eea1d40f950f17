-- What a walk answers is the first departure, by the definitions.
use Rattle.std.proofs.Common.{◌≡◌, ℕ, zero, suc, ◌+◌, ◌<◌, ◌≤◌, Bool, true, false, cond, List, [], ◌∷◌, ◌++◌, length, take, drop, Option, Some, None, Ordering, Less, Equal, Greater, refl, sym, ap, subst, ◌∙◌, arith}
use Rattle.std.specs.List.{Contains}
use Rattle.std.proofs.lemmas.List.{append-nil, length-append, length-take, length-drop, take_at, take-append-drop}
use Rattle.cbor_model.specs.Head.{HeadWidth, head}
use Rattle.cbor_model.specs.Raw as raw
use Rattle.cbor_model.specs.Raw.{Length, definite, indefinite, Raw, Raws, no_raws, RawPairs, no_raw_pairs, raw_pair, Chunk, Simple, false_item, true_item, null_item, undefined_item, AreBytes, count, pair_count, depth, IsWellFormed}
use Rattle.cbor_model.specs.Spelling.{spell, spell_all, spell_pairs, chunk, break, enclosed, BeginsSpelling}
use Rattle.cbor_model.specs.Order.{val_cmp}
use Rattle.cbor_model.specs.Value.{value, by_order}
use Rattle.cbor_strict.specs.Departure.{floor, head_end, long_head, long_length, length_end, undefined_at, not_above, chunk_departures, departures, all_departures, pair_departures, DepartsAt, IsFirstDeparture, ShowsDeparture}
use Rattle.cbor_strict.specs.Walk.{Walk, passed, departed, stopped, walk, walk_of}
use Rattle.cbor_strict.specs.Strict.{IsFirstShown}
use Rattle.cbor_strict.proofs.Walked.{Reports, walked}
use Rattle.cbor_strict.proofs.WalkFronts.{Below, Goes, walk_local, walk_fuel}
use Rattle.cbor_strict.proofs.Completed.{walk_begins}
use Rattle.std.specs.Prelude.{flat_map, nat_lt}

-- ---- departures are listed in the order of the bytes

-- each is no less than the one before it, from the first number to the last
abbrev pub Climbs : ℕ → ℕ → List ℕ → Type 0
Climbs low high [] = low ≤ high
Climbs low high (x ∷ xs) = (low ≤ x) × Climbs x high xs

pub climbs_on : (low mid high : ℕ) (xs ys : List ℕ) → Climbs low mid xs → Climbs mid high ys → Climbs low high (xs ++ ys)
climbs_on low mid high [] ys one other = lower ys one other
  where
    lower : (ys : List ℕ) → low ≤ mid → Climbs mid high ys → Climbs low high ys
    lower [] le other = omega (arith, le, other)
    lower (y ∷ ys) le other = (omega (arith, le, other.0), other.1)
climbs_on low mid high (x ∷ xs) ys one other = (one.0, climbs_on x mid high xs ys one.1 other)

pub head_climbs : (at major : ℕ) (w : HeadWidth) (n : ℕ) → Climbs at (head_end at major w n) (long_head at major w n)
head_climbs at major w n = by_test (nat_lt n (floor w))
  where
    by_test : (b : Bool) → Climbs at (head_end at major w n) (cond b (head_end at major w n ∷ []) [])
    by_test true = (omega arith, omega arith)
    by_test false = omega arith

-- up to a later end
pub climbs_to : (low high end : ℕ) (xs : List ℕ) → Climbs low high xs → high ≤ end → Climbs low end xs
climbs_to low high end [] one le = omega (arith, one, le)
climbs_to low high end (x ∷ xs) one le = (one.0, climbs_to x high end xs one.1 le)

chunks_climb : (at major : ℕ) (cs : List Chunk) → Climbs at (at + length (flat_map (chunk major) cs)) (chunk_departures at major cs)
chunks_climb at major [] = omega arith
chunks_climb at major (c ∷ cs) =
    let n = length c.bytes in
    let one = at + length (chunk major c) in
    climbs_on at one _ (long_head at major c.width n) (chunk_departures one major cs)
    (climbs_to at (head_end at major c.width n) one (long_head at major c.width n) (head_climbs at major c.width n) (omega (arith, length-append (head major c.width n) c.bytes)))
    (climbs_to one (one + length (flat_map (chunk major) cs)) _ (chunk_departures one major cs) (chunks_climb one major cs) (omega (arith, length-append (chunk major c) (flat_map (chunk major) cs))))

order_climbs : (end : ℕ) (o : Ordering) → Climbs end end (by_order o [] (end ∷ []) (end ∷ []))
order_climbs end Less = omega arith
order_climbs end Equal = (omega arith, omega arith)
order_climbs end Greater = (omega arith, omega arith)

pub key_climbs : (end : ℕ) (before : Option Raw) (k : Raw) → Climbs end end (not_above end before k)
key_climbs end None k = omega arith
key_climbs end (Some l) k = order_climbs end (val_cmp (value l) (value k))

pub length_climbs : (at major : ℕ) (l : Length) (n : ℕ) → Climbs at (length_end at major l n) (long_length at major l n)
length_climbs at major (definite w) n = head_climbs at major w n
length_climbs at major indefinite n = (omega arith, omega arith)

pub enclosed_end : (at major : ℕ) (l : Length) (n : ℕ) (items : List ℕ) → length_end at major l n + length items ≤ at + length (enclosed major l n items)
enclosed_end at major (definite w) n items = omega (arith, length-append (head major w n) items)
enclosed_end at major indefinite n items = omega (arith, length-append items break)

undefined_climbs : (at : ℕ) (s : Simple) → Climbs at (suc at) (undefined_at at s)
undefined_climbs at false_item = omega arith
undefined_climbs at true_item = omega arith
undefined_climbs at null_item = omega arith
undefined_climbs at undefined_item = (omega arith, omega arith)

mutual
  unfolding departures spell

  pub departures_climb : (at : ℕ) (r : Raw) → Climbs at (at + length (spell r)) (departures at r)
  departures_climb at (raw.unsigned w n) = head_climbs at 0 w n
  departures_climb at (raw.negative w n) = head_climbs at 1 w n
  departures_climb at (raw.bytes c) = climbs_to at _ _ (long_head at 2 c.width (length c.bytes)) (head_climbs at 2 c.width (length c.bytes)) (omega (arith, length-append (head 2 c.width (length c.bytes)) c.bytes))
  departures_climb at (raw.text c) = climbs_to at _ _ (long_head at 3 c.width (length c.bytes)) (head_climbs at 3 c.width (length c.bytes)) (omega (arith, length-append (head 3 c.width (length c.bytes)) c.bytes))
  departures_climb at (raw.bytes_chunks cs) = (omega arith, climbs_to (suc at) _ _ (chunk_departures (suc at) 2 cs) (chunks_climb (suc at) 2 cs) (omega (arith, length-append (flat_map (chunk 2) cs) break)))
  departures_climb at (raw.text_chunks cs) = (omega arith, climbs_to (suc at) _ _ (chunk_departures (suc at) 3 cs) (chunks_climb (suc at) 3 cs) (omega (arith, length-append (flat_map (chunk 3) cs) break)))
  departures_climb at (raw.array l rs) =
      let end = length_end at 4 l (count rs) in
      climbs_on at end _ (long_length at 4 l (count rs)) (all_departures end rs) (length_climbs at 4 l (count rs)) (climbs_to end _ _ (all_departures end rs) (all_climb end rs) (enclosed_end at 4 l (count rs) (spell_all rs)))
  departures_climb at (raw.map l ps) =
      let end = length_end at 5 l (pair_count ps) in
      climbs_on at end _ (long_length at 5 l (pair_count ps)) (pair_departures end None ps) (length_climbs at 5 l (pair_count ps)) (climbs_to end _ _ (pair_departures end None ps) (pairs_climb end None ps) (enclosed_end at 5 l (pair_count ps) (spell_pairs ps)))
  departures_climb at (raw.tag w n r) =
      let end = head_end at 6 w n in
      climbs_on at end _ (long_head at 6 w n) (departures end r) (head_climbs at 6 w n) (climbs_to end _ _ (departures end r) (departures_climb end r) (omega (arith, length-append (head 6 w n) (spell r))))
  departures_climb at (raw.simple s) = climbs_to at (suc at) _ (undefined_at at s) (undefined_climbs at s) (omega arith)
  departures_climb at (raw.float w bits) = omega arith

  pub all_climb : (at : ℕ) (rs : Raws) → Climbs at (at + length (spell_all rs)) (all_departures at rs)
  all_climb at no_raws = omega arith
  all_climb at (raw.raw r rs) =
      let end = at + length (spell r) in
      climbs_on at end _ (departures at r) (all_departures end rs) (departures_climb at r) (climbs_to end _ _ (all_departures end rs) (all_climb end rs) (omega (arith, length-append (spell r) (spell_all rs))))

  pub pairs_climb : (at : ℕ) (before : Option Raw) (ps : RawPairs) → Climbs at (at + length (spell_pairs ps)) (pair_departures at before ps)
  pairs_climb at before no_raw_pairs = omega arith
  pairs_climb at before (raw_pair k v ps) =
      let here = at + length (spell k) in
      let there = at + length (spell k) + length (spell v) in
      let high = at + length (spell k ++ (spell v ++ spell_pairs ps)) in
      climbs_on at here high (departures at k) (not_above here before k ++ (departures here v ++ pair_departures there (Some k) ps)) (departures_climb at k)
      (climbs_on here here high (not_above here before k) (departures here v ++ pair_departures there (Some k) ps) (key_climbs here before k)
      (climbs_on here there high (departures here v) (pair_departures there (Some k) ps) (departures_climb here v)
      (climbs_to there _ high (pair_departures there (Some k) ps) (pairs_climb there (Some k) ps) (omega (arith, length-append (spell k) (spell v ++ spell_pairs ps), length-append (spell v) (spell_pairs ps))))))

-- the first of the list is the least
pub least_of : (low high : ℕ) (xs : List ℕ) (i : ℕ) → Climbs low high xs → Contains xs i → low ≤ i
least_of low high [] i climb has = absurd (omega (arith, has.1))
least_of low high (x ∷ xs) i climb (zero, lt, is) = omega (arith, climb.0, is)
least_of low high (x ∷ xs) i climb (suc k, lt, is) = omega (arith, climb.0, least_of x high xs i climb.1 (k, (let lt' : k < length xs = omega arith in lt'), is))

pub first_listed : (r : Raw) (j : ℕ) (js : List ℕ) → departures 0 r ≡ j ∷ js → IsFirstDeparture r j
first_listed r j js is =
    let high = 0 + length (spell r) in
    let climb : Climbs 0 high (j ∷ js) = subst (Climbs 0 high) is (departures_climb 0 r) in
    record {
      departs = subst (λ (xs : List ℕ). Contains xs j) (sym is) (0, omega arith, refl);
      first = λ i has. least_of j high (j ∷ js) i (omega arith, climb.1) (subst (λ (xs : List ℕ). Contains xs i) is has);
    }

-- ---- a walk over a whole spelling

pub item_answer : (r : Raw) (fuel : ℕ) → IsWellFormed r → depth r < fuel → Reports (length (spell r)) (departures 0 r) [] (walk fuel (spell r))
item_answer r fuel fits enough =
    let bare = append-nil (spell r) in
    subst (λ (bs : List ℕ). Reports (length (spell r)) (departures 0 r) [] (walk fuel bs)) bare
    (walked r fuel 0 [] (length (spell r)) fits enough (omega (arith, ap length bare)))

module _ (r : Raw) (fuel : ℕ) (fits : IsWellFormed r) (enough : depth r < fuel) where
  -- where it departs, the first departure is there
  pub departs_first : (left : ℕ) → walk fuel (spell r) ≡ departed left → (j : ℕ) × (j + left ≡ length (spell r)) × IsFirstDeparture r j
  departs_first left departs = by_list (departures 0 r) refl (item_answer r fuel fits enough)
    where
      by_list : (xs : List ℕ) → departures 0 r ≡ xs → Reports (length (spell r)) xs [] (walk fuel (spell r)) → (j : ℕ) × (j + left ≡ length (spell r)) × IsFirstDeparture r j
      by_list [] is reports = absurd (let no : passed [] ≡ departed left = sym reports ∙ departs in cc)
      by_list (j ∷ js) is reports =
          let same : departed reports.0 ≡ departed left = sym reports.2 ∙ departs in
          let equal : reports.0 ≡ left = cc in
          (j, omega (arith, reports.1, equal), first_listed r j js is)

  -- and it departs no later than where the item does
  pub item_departs : (i : ℕ) → DepartsAt r i → (left : ℕ) × (walk fuel (spell r) ≡ departed left) × (length (spell r) ≤ i + left)
  item_departs i has = by_list (departures 0 r) refl (item_answer r fuel fits enough)
    where
      by_list : (xs : List ℕ) → departures 0 r ≡ xs → Reports (length (spell r)) xs [] (walk fuel (spell r)) → (left : ℕ) × (walk fuel (spell r) ≡ departed left) × (length (spell r) ≤ i + left)
      by_list [] is reports =
          let none : Contains [] i = subst (λ (xs : List ℕ). Contains xs i) is has in
          absurd (omega (arith, none.1))
      by_list (j ∷ js) is reports = (reports.0, reports.2, omega (arith, reports.1, (first_listed r j js is).first i has))

  -- no departure, and the walk goes past
  pub none_departs : departures 0 r ≡ [] → walk fuel (spell r) ≡ passed []
  none_departs is = subst (λ (xs : List ℕ). Reports (length (spell r)) xs [] (walk fuel (spell r))) is (item_answer r fuel fits enough)

-- ---- a walk over more bytes or fewer

-- a departure that the front shows
pub cut : (fuel : ℕ) (front rest : List ℕ) (left : ℕ) → length rest ≤ left → walk fuel (front ++ rest) ≡ departed left → (k : ℕ) × (left ≡ k + length rest) × (walk fuel front ≡ departed k)
cut fuel front rest left le departs = by_walk (walk fuel front) refl (walk_local rest fuel front)
  where
    by_walk : (w : Walk) → walk fuel front ≡ w → Goes rest w (walk fuel (front ++ rest)) → (k : ℕ) × (left ≡ k + length rest) × (walk fuel front ≡ departed k)
    by_walk (passed mid) is goes = absurd (let no : passed (mid ++ rest) ≡ departed left = sym goes ∙ departs in cc)
    by_walk (departed k) is goes =
        let same : departed left ≡ departed (k + length rest) = sym departs ∙ goes in
        (k, cc, is)
    by_walk stopped is goes =
        let fewer : left < length rest = subst (Below (length rest)) departs goes in
        absurd (omega (arith, fewer, le))

go_on : (fuel : ℕ) (front rest : List ℕ) (k : ℕ) → walk fuel front ≡ departed k → walk fuel (front ++ rest) ≡ departed (k + length rest)
go_on fuel front rest k is = subst (λ (w : Walk). Goes rest w (walk fuel (front ++ rest))) is (walk_local rest fuel front)

-- ---- what is shown

-- what the bytes show, the walk answers, or something earlier
pub shown_departs : (bs : List ℕ) (i : ℕ) → ShowsDeparture bs i → (left : ℕ) × (walk_of bs ≡ departed left) × (length bs ≤ i + left)
shown_departs bs i shows =
    let s = shows.begins in
    let r = s.item in
    let front = take i bs in
    let fuel = suc (depth r + length bs) in
    let long : length front ≡ i = omega (arith, length-take i bs, shows.within) in
    let d = item_departs r fuel s.fits (omega arith) i (shows.each s) in
    let le : length s.more ≤ d.0 = omega (arith, d.2, ap length s.whole, length-append front s.more, long) in
    let c = cut fuel front s.more d.0 le (ap (walk fuel) (sym s.whole) ∙ d.1) in
    let g = go_on fuel front (drop i bs) c.0 c.2 in
    let all : walk_of bs ≡ departed (c.0 + length (drop i bs)) =
    walk_fuel (length bs) fuel bs (omega arith) (omega arith) ∙ ap (walk fuel) (sym (take-append-drop i bs)) ∙ g in
    (c.0 + length (drop i bs), all, omega (arith, length-drop i bs))

pub departed_shows : (bs : List ℕ) (left : ℕ) → AreBytes bs → walk_of bs ≡ departed left → (j : ℕ) × (j + left ≡ length bs) × IsFirstShown bs j
departed_shows bs left fits is =
    let b = walk_begins (length bs) bs left fits is in
    let j = length b.front in
    let taken : take j bs ≡ b.front = ap (take j) b.is ∙ take_at b.front b.rest j refl in
    let total : j + left ≡ length bs = omega (arith, ap length b.is, length-append b.front b.rest, b.long) in (
      j,
      total,
      record {
        shows = record {
          within = omega (arith, total);
          begins = subst BeginsSpelling (sym taken) b.begins;
          each = λ spelt. each b.front b.rest b.is b.long taken spelt;
        };
        first = λ i shows.
            let other = shown_departs bs i shows in
            let same : departed other.0 ≡ departed left = sym other.1 ∙ is in
            let equal : other.0 ≡ left = cc in
            omega (arith, other.2, equal, total);
      },
    )
  where
    each : (front rest : List ℕ) → bs ≡ front ++ rest → length rest ≡ left → take (length front) bs ≡ front → (spelt : BeginsSpelling (take (length front) bs)) → DepartsAt spelt.item (length front)
    each front rest parts long taken spelt =
        let r = spelt.item in
        let fuel = suc (depth r + length bs) in
        let departs : walk fuel (front ++ rest) ≡ departed left =
        ap (walk fuel) (sym parts) ∙ walk_fuel fuel (length bs) bs (omega arith) (omega arith) ∙ is in
        let c = cut fuel front rest left (omega (arith, long)) departs in
        let g = go_on fuel front spelt.more c.0 c.2 in
        let whole : spell r ≡ front ++ spelt.more = spelt.whole ∙ ap (λ (t : List ℕ). t ++ spelt.more) taken in
        let d = departs_first r fuel spelt.fits (omega arith) (c.0 + length spelt.more) (ap (walk fuel) whole ∙ g) in
        let here : d.0 ≡ length front = omega (arith, d.1, c.1, long, ap length whole, length-append front spelt.more) in
        subst (DepartsAt r) here d.2.departs
