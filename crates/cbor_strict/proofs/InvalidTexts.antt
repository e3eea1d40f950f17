-- Between the fault of a text that isn't UTF-8 and the text's end nothing is shown.
use Rattle.std.proofs.Common.{◌≡◌, ℕ, zero, suc, ◌+◌, ◌-◌, ◌<◌, ◌≤◌, List, [], ◌∷◌, ◌++◌, length, take, drop, Option, Some, None, refl, sym, ap, subst, ◌∙◌, append_assoc, arith, inl, inr}
use Rattle.std.specs.Prelude.{flat_map}
use Rattle.std.specs.List.{Contains}
use Rattle.std.proofs.lemmas.Bool.{cases_lt}
use Rattle.std.proofs.lemmas.List.{append-nil, length-append, length-take, length-drop, take_at, take-take, take-append-drop}
use Rattle.std.proofs.lemmas.List.Elements.{Contains-append_cases, Contains-append_left, Contains-append_right}
use Rattle.cbor_model.specs.Head.{head}
use Rattle.cbor_model.specs.Raw as raw
use Rattle.cbor_model.specs.Raw.{Raw, Raws, no_raws, RawPairs, no_raw_pairs, raw_pair, Chunk, joined, AreBytes, count, pair_count, depth, IsWellFormed}
use Rattle.cbor_model.specs.Spelling.{spell, spell_all, spell_pairs, chunk, break}
use Rattle.cbor_model.specs.Allowed.{IsTextOf, IsInvalidUtf8}
use Rattle.cbor_model.proofs.reader.ReaderSteps.{AreBytes-take}
use Rattle.cbor_strict.specs.Departure.{head_end, long_head, long_length, length_end, not_above, departures, all_departures, pair_departures, DepartsAt, ShowsDeparture}
use Rattle.cbor_strict.specs.Walk.{departed, walk, walk_of}
use Rattle.cbor_strict.proofs.WalkFronts.{walk_fuel}
use Rattle.cbor_strict.proofs.Departed.{Climbs, climbs_on, climbs_to, least_of, head_climbs, length_climbs, enclosed_end, key_climbs, departures_climb, all_climb, pairs_climb, item_departs, cut, departed_shows}
use Rattle.cbor_strict.proofs.Strict.{from_front}
use Rattle.cbor_strict.proofs.ContainedTexts.{StandsIn, StandsInAll, StandsInPairs, Holds, holds_wanted}

-- no element is above the last number
high_of : (low high : ℕ) (xs : List ℕ) → Climbs low high xs → low ≤ high
high_of low high [] climb = climb
high_of low high (x ∷ xs) climb = omega (arith, climb.0, high_of x high xs climb.1)

most_of : (low high : ℕ) (xs : List ℕ) (i : ℕ) → Climbs low high xs → Contains xs i → i ≤ high
most_of low high [] i climb has = absurd (omega (arith, has.1))
most_of low high (x ∷ xs) i climb (zero, lt, is) = omega (arith, high_of x high xs climb.1, is)
most_of low high (x ∷ xs) i climb (suc k, lt, is) = most_of x high xs i climb.1 (k, (let lt' : k < length xs = omega arith in lt'), is)

-- ---- the departures before an item that stands in another, its own, and those after it

record Splits (xs : List ℕ) (low high k : ℕ) (t : Raw) : Type 0 where
  ahead : List ℕ
  behind : List ℕ
  is : xs ≡ ahead ++ (departures k t ++ behind)
  climbs : Climbs low k ahead
  climbs' : Climbs (k + length (spell t)) high behind

module _ (k : ℕ) (t : Raw) where
  splits_behind : (low mid high : ℕ) (xs ys : List ℕ) → Climbs low mid xs → Splits ys mid high k t → Splits (xs ++ ys) low high k t
  splits_behind low mid high xs ys one s = record {
    ahead = xs ++ s.ahead;
    behind = s.behind;
    is = ap (λ (zs : List ℕ). xs ++ zs) s.is ∙ sym (append_assoc xs s.ahead (departures k t ++ s.behind));
    climbs = climbs_on low mid k xs s.ahead one s.climbs;
    climbs' = s.climbs';
  }

  splits_ahead : (low mid high : ℕ) (xs ys : List ℕ) → Splits xs low mid k t → Climbs mid high ys → Splits (xs ++ ys) low high k t
  splits_ahead low mid high xs ys s other = record {
    ahead = s.ahead;
    behind = s.behind ++ ys;
    is = ap (λ (zs : List ℕ). zs ++ ys) s.is ∙ append_assoc s.ahead (departures k t ++ s.behind) ys ∙ ap (λ (zs : List ℕ). s.ahead ++ zs) (append_assoc (departures k t) s.behind ys);
    climbs = s.climbs;
    climbs' = climbs_on (k + length (spell t)) mid high s.behind ys s.climbs' other;
  }

  splits_to : (low high end : ℕ) (xs : List ℕ) → Splits xs low high k t → high ≤ end → Splits xs low end k t
  splits_to low high end xs s le = record { ahead = s.ahead; behind = s.behind; is = s.is; climbs = s.climbs; climbs' = climbs_to (k + length (spell t)) high end s.behind s.climbs' le }

  splits_itself : (at : ℕ) (r : Raw) → (at ≡ k) × (r ≡ t) → Splits (departures at r) at (at + length (spell r)) k t
  splits_itself at r is = record {
    ahead = [];
    behind = [];
    is = ap (λ (n : ℕ). departures n r) is.0 ∙ ap (departures k) is.1 ∙ sym (append-nil (departures k t));
    climbs = omega (arith, is.0);
    climbs' = omega (arith, is.0, ap (λ (r : Raw). length (spell r)) is.1);
  }

  mutual
    unfolding departures spell

    stands_split : (at : ℕ) (r : Raw) → StandsIn at r k t → Splits (departures at r) at (at + length (spell r)) k t
    stands_split at (raw.array l rs) stands =
        let end = length_end at 4 l (count rs) in
        splits_behind at end _ (long_length at 4 l (count rs)) (all_departures end rs) (length_climbs at 4 l (count rs)) (splits_to end _ _ (all_departures end rs) (all_split end rs stands) (enclosed_end at 4 l (count rs) (spell_all rs)))
    stands_split at (raw.map l ps) stands =
        let end = length_end at 5 l (pair_count ps) in
        splits_behind at end _ (long_length at 5 l (pair_count ps)) (pair_departures end None ps) (length_climbs at 5 l (pair_count ps)) (splits_to end _ _ (pair_departures end None ps) (pairs_split end None ps stands) (enclosed_end at 5 l (pair_count ps) (spell_pairs ps)))
    stands_split at (raw.tag w n r) stands =
        let end = head_end at 6 w n in
        splits_behind at end _ (long_head at 6 w n) (departures end r) (head_climbs at 6 w n) (splits_to end _ _ (departures end r) (stands_split end r stands) (omega (arith, length-append (head 6 w n) (spell r))))
    stands_split at (raw.unsigned w n) stands = splits_itself at (raw.unsigned w n) stands
    stands_split at (raw.negative w n) stands = splits_itself at (raw.negative w n) stands
    stands_split at (raw.bytes c) stands = splits_itself at (raw.bytes c) stands
    stands_split at (raw.text c) stands = splits_itself at (raw.text c) stands
    stands_split at (raw.bytes_chunks cs) stands = splits_itself at (raw.bytes_chunks cs) stands
    stands_split at (raw.text_chunks cs) stands = splits_itself at (raw.text_chunks cs) stands
    stands_split at (raw.simple s) stands = splits_itself at (raw.simple s) stands
    stands_split at (raw.float w bits) stands = splits_itself at (raw.float w bits) stands

    all_split : (at : ℕ) (rs : Raws) → StandsInAll at rs k t → Splits (all_departures at rs) at (at + length (spell_all rs)) k t
    all_split at no_raws stands = absurd stands
    all_split at (raw.raw r rs) (inl here) =
        let end = at + length (spell r) in
        splits_ahead at end _ (departures at r) (all_departures end rs) (stands_split at r here) (climbs_to end _ _ (all_departures end rs) (all_climb end rs) (omega (arith, length-append (spell r) (spell_all rs))))
    all_split at (raw.raw r rs) (inr later) =
        let end = at + length (spell r) in
        splits_behind at end _ (departures at r) (all_departures end rs) (departures_climb at r) (splits_to end _ _ (all_departures end rs) (all_split end rs later) (omega (arith, length-append (spell r) (spell_all rs))))

    pairs_split : (at : ℕ) (before : Option Raw) (ps : RawPairs) → StandsInPairs at ps k t → Splits (pair_departures at before ps) at (at + length (spell_pairs ps)) k t
    pairs_split at before no_raw_pairs stands = absurd stands
    pairs_split at before (raw_pair key v ps) stands =
        let here = at + length (spell key) in
        let there = at + length (spell key) + length (spell v) in
        let high = at + length (spell key ++ (spell v ++ spell_pairs ps)) in
        let last : there + length (spell_pairs ps) ≤ high = omega (arith, length-append (spell key) (spell v ++ spell_pairs ps), length-append (spell v) (spell_pairs ps)) in
        let others = pair_departures there (Some key) ps in
        let climb = climbs_to there _ high others (pairs_climb there (Some key) ps) last in
        elim stands [
          | inl in_key ↦
              splits_ahead at here high (departures at key) (not_above here before key ++ (departures here v ++ others)) (stands_split at key in_key)
              (climbs_on here here high (not_above here before key) (departures here v ++ others) (key_climbs here before key) (climbs_on here there high (departures here v) others (departures_climb here v) climb))
          | inr later ↦
              splits_behind at here high (departures at key) (not_above here before key ++ (departures here v ++ others)) (departures_climb at key)
              (splits_behind here here high (not_above here before key) (departures here v ++ others) (key_climbs here before key)
              (elim later [
                | inl in_value ↦ splits_ahead here there high (departures here v) others (stands_split here v in_value) climb
                | inr in_others ↦ splits_behind here there high (departures here v) others (departures_climb here v) (splits_to there _ high others (pairs_split there (Some key) ps in_others) last)
              ]))
        ]

-- ---- a text's own departures

-- a definite one's stand before its content
text_early : (k : ℕ) (c : Chunk) (i : ℕ) → Contains (departures k (raw.text c)) i → i + length c.bytes ≤ k + length (spell (raw.text c))
unfolding departures spell
text_early k c i has =
    let n = length c.bytes in
    let le = most_of k (head_end k 3 c.width n) (long_head k 3 c.width n) i (head_climbs k 3 c.width n) has in
    omega (arith, le, length-append (head 3 c.width n) c.bytes)

-- one in chunks departs after its first byte
chunks_depart : (k : ℕ) (cs : List Chunk) → Contains (departures k (raw.text_chunks cs)) (suc k)
unfolding departures
chunks_depart k cs = (0, omega arith, refl)

joined-length : (cs : List Chunk) → length (joined cs) ≤ length (flat_map (chunk 3) cs)
joined-length [] = omega arith
joined-length (c ∷ cs) =
    omega (arith, joined-length cs, length-append c.bytes (joined cs), length-append (chunk 3 c) (flat_map (chunk 3) cs), length-append (head 3 c.width (length c.bytes)) c.bytes)

chunks_long : (cs : List Chunk) → length (joined cs) + 2 ≤ length (spell (raw.text_chunks cs))
unfolding spell
chunks_long cs = omega (arith, joined-length cs, length-append (flat_map (chunk 3) cs) break)

-- a text is no shorter than its bytes
text_long : (t : Raw) (b : List ℕ) → IsTextOf t b → length b ≤ length (spell t)
unfolding spell
text_long (raw.text c) b is = omega (arith, ap length is, length-append (head 3 c.width (length c.bytes)) c.bytes)
text_long (raw.text_chunks cs) b is = omega (arith, ap length is, chunks_long cs)
text_long _ b is = absurd is

-- it holds itself
text_holds : (t : Raw) (b : List ℕ) → IsWellFormed t → IsTextOf t b → Holds (spell t) 0 t
text_holds (raw.text c) b fits is = record { item = raw.text c; fits = fits; more = []; spelled = sym (append-nil (spell (raw.text c))); stands = λ at. ((let none : at ≡ at + 0 = omega arith in none), refl) }
text_holds (raw.text_chunks cs) b fits is = record { item = raw.text_chunks cs; fits = fits; more = []; spelled = sym (append-nil (spell (raw.text_chunks cs))); stands = λ at. ((let none : at ≡ at + 0 = omega arith in none), refl) }
text_holds _ b fits is = absurd is

-- ---- the place of the fault

module _ (bs : List ℕ) (fits : AreBytes bs) (place offset : ℕ) (a : IsInvalidUtf8 bs place offset) (none : (i : ℕ) → ShowsDeparture bs i → offset < i) where
  -- where the text stands
  abbrev start : ℕ
  start = length a.before

  held : Holds (a.before ++ spell a.item) (start + 0) a.item
  held = holds_wanted a.levels a.before (spell a.item) 0 a.item a.wanted (text_holds a.item a.text a.fits a.text_is)

  -- the bytes up to the place are the front of an item
  front : take place bs ≡ a.before ++ spell a.item
  front = ap (take place) a.first.parts ∙ take_at (a.before ++ spell a.item) a.first.rest place a.first.long

  within : place ≤ length bs
  within = omega (arith, ap length a.first.parts, length-append (a.before ++ spell a.item) a.first.rest, a.first.long)

  front_long : length (take place bs) ≡ place
  front_long = omega (arith, length-take place bs, within)

  begins : spell held.item ≡ take place bs ++ held.more
  begins = held.spelled ∙ ap (λ (t : List ℕ). t ++ held.more) (sym front)

  ends : start + length (spell a.item) ≡ place
  ends = omega (arith, a.first.long, length-append a.before (spell a.item))

  -- the offset is that of a byte of the text
  in_text : (start ≤ offset) × (offset < place) × (place ≤ offset + length a.text)
  in_text =
      let long = text_long a.item a.text a.text_is in (
        omega (arith, long, ends, a.offset_is),
        omega (arith, a.offset_is, a.longest.short),
        omega (arith, a.offset_is),
      )

  -- what the item departs at as early, the bytes show before the fault
  no_early : (j : ℕ) → DepartsAt held.item j → j ≤ offset → ⊥
  no_early j has early =
      let r = held.item in
      let fuel = suc (depth r + length bs) in
      let d = item_departs r fuel held.fits (omega arith) j has in
      let long : length (spell r) ≡ place + length held.more = ap length begins ∙ (length-append (take place bs) held.more ∙ ap (λ (n : ℕ). n + length held.more) front_long) in
      let c = cut fuel (take place bs) held.more d.0 (omega (arith, d.2, long, early, in_text.1)) (ap (walk fuel) (sym begins) ∙ d.1) in
      let rest = drop offset (take place bs) in
      let rest_long : length rest ≡ place - offset = omega (arith, length-drop offset (take place bs), front_long) in
      let again : take offset (take place bs) ≡ take offset bs = take-take offset place bs (omega (arith, in_text.1)) in
      let parts : take place bs ≡ take offset bs ++ rest = sym (take-append-drop offset (take place bs)) ∙ ap (λ (t : List ℕ). t ++ rest) again in
      let c' = cut fuel (take offset bs) rest c.0 (omega (arith, d.2, long, c.1, early, rest_long)) (ap (walk fuel) (sym parts) ∙ c.2) in
      let short : length (take offset bs) ≤ fuel = omega (arith, length-take offset bs) in
      let all : walk_of (take offset bs) ≡ departed c'.0 = walk_fuel (length (take offset bs)) fuel (take offset bs) (omega arith) short ∙ c'.2 in
      let shown = departed_shows (take offset bs) c'.0 (AreBytes-take offset bs fits) all in
      let above = none shown.0 (from_front offset bs shown.0 shown.2.shows) in
      omega (arith, above, shown.2.shows.within, length-take offset bs)

  split : Splits (departures 0 held.item) 0 (0 + length (spell held.item)) start a.item
  split =
      let same : 0 + (start + 0) ≡ start = omega arith in
      stands_split start a.item 0 held.item (subst (λ (k : ℕ). StandsIn 0 held.item k a.item) same (held.stands 0))

  -- what the text departs at, the item does
  of_text : (i : ℕ) → Contains (departures start a.item) i → DepartsAt held.item i
  of_text i has =
      subst (λ (xs : List ℕ). Contains xs i) (sym split.is)
      (Contains-append_right split.ahead (departures start a.item ++ split.behind) i (Contains-append_left (departures start a.item) split.behind i has))

  -- the text doesn't depart within its content
  not_within : (i : ℕ) → offset < i → i < place → Contains (departures start a.item) i → ⊥
  not_within i lt lt' has = by_text a.item refl a.text_is
    where
      by_text : (t : Raw) → a.item ≡ t → IsTextOf t a.text → ⊥
      by_text (raw.text c) same is =
          let early = text_early start c i (subst (λ (t : Raw). Contains (departures start t) i) same has) in
          omega (arith, early, lt, lt', ap length is, ends, ap (λ (t : Raw). length (spell t)) same, in_text.2)
      by_text (raw.text_chunks cs) same is =
          let departs = of_text (suc start) (subst (λ (t : Raw). Contains (departures start t) (suc start)) (sym same) (chunks_depart start cs)) in
          no_early (suc start) departs (omega (arith, chunks_long cs, ap length is, ends, ap (λ (t : Raw). length (spell t)) same, in_text.2))
      by_text _ same is = absurd is

  -- nothing is shown between the offset and the place
  pub shown_behind_text : (i : ℕ) → ShowsDeparture bs i → place ≤ i
  shown_behind_text i shows =
      elim (cases_lt i place) [
        | inr le ↦ le
        | inl lt ↦ absurd (inside lt)
      ]
    where
      behind_offset : offset < i
      behind_offset = none i shows

      inside : i < place → ⊥
      inside lt =
          let parts : take place bs ≡ take i bs ++ drop i (take place bs) = sym (take-append-drop i (take place bs)) ∙ ap (λ (t : List ℕ). t ++ drop i (take place bs)) (take-take i place bs (omega (arith, lt))) in
          let departs = shows.each (record {
            item = held.item;
            fits = held.fits;
            more = drop i (take place bs) ++ held.more;
            whole = begins ∙ ap (λ (t : List ℕ). t ++ held.more) parts ∙ append_assoc (take i bs) (drop i (take place bs)) held.more;
          }) in
          elim (Contains-append_cases split.ahead (departures start a.item ++ split.behind) i (subst (λ (xs : List ℕ). Contains xs i) split.is departs)) [
            | inl ahead ↦ omega (arith, most_of 0 start split.ahead i split.climbs ahead, behind_offset, in_text.0)
            | inr others ↦
                elim (Contains-append_cases (departures start a.item) split.behind i others) [
                  | inl own ↦ not_within i behind_offset lt own
                  | inr behind ↦ omega (arith, least_of (start + length (spell a.item)) _ split.behind i split.climbs' behind, lt, ends)
                ]
          ]
