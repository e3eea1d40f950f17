-- What the first departure says: which rules are kept, and that no place before it breaks one.
use Rattle.std.proofs.Common.{◌≡◌, ℕ, suc, ◌+◌, ◌≤◌, Bool, true, false, cond, List, [], ◌∷◌, ◌++◌, length, Option, Some, None, refl, ap, subst, arith}
use Rattle.std.specs.List.{AllByRecursion}
use Rattle.std.specs.Prelude.{flat_map}
use Rattle.std.proofs.lemmas.List.{length-append}
use Rattle.cbor_model.specs.Head.{head}
use Rattle.cbor_model.specs.Raw as raw
use Rattle.cbor_model.specs.Raw.{Chunk, definite, indefinite, Raw, Raws, no_raws, RawPairs, no_raw_pairs, raw_pair, count, pair_count}
use Rattle.cbor_model.specs.Spelling.{spell, spell_all, spell_pairs, chunk, break}
use Rattle.cbor_rules.specs.Features.{Feature, Place, features, all_features, open_features, pair_features, chunk_places}
use Rattle.cbor_rules.specs.Rules.{Terms, breaks, first_broken, all_rules, broken, departure_or, departure_in, first_departure, IsFirst, NoneWhereKept, FirstIsLeast}
use Rattle.cbor_rules.specs.declared.settings.Rule.{Rule}
use Rattle.cbor_rules.specs.declared.settings.Rule.TheVariants.{ShortestHeads, DefiniteLengths, PlainKeys, AscendingKeys, UniqueKeys, ReducedNumbers, ShortestFloats, OneNan, NoUndefined, NoTags, MostItems, MostPairs, MostBytes}
use Rattle.cbor_rules.specs.declared.answers.Departure.{Departure}

-- ---- one feature

module _ (terms : Terms) (f : Feature) where
  -- these rules are kept
  abbrev AreKept : List Rule → Type 0
  AreKept = AllByRecursion (λ (rule : Rule). breaks terms rule f ≡ false)

  none_kept : (others : List Rule) → first_broken terms f others ≡ None → AreKept others
  none_kept [] none = tt
  none_kept (rule ∷ others) none = by (breaks terms rule f) none (none_kept others)
    where
      by : (b : Bool) → cond b (Some rule) (first_broken terms f others) ≡ None → (first_broken terms f others ≡ None → AreKept others) → (b ≡ false) × AreKept others
      by true none more = absurd cc
      by false none more = (refl, more none)

  kept_none : (others : List Rule) → AreKept others → first_broken terms f others ≡ None
  kept_none [] kept = refl
  kept_none (rule ∷ others) kept = rw kept.0 (kept_none others kept.1)

  some_breaks : (others : List Rule) (rule : Rule) → first_broken terms f others ≡ Some rule → breaks terms rule f ≡ true
  some_breaks [] rule is = absurd cc
  some_breaks (r ∷ others) rule is = by (breaks terms r f) refl is (some_breaks others rule)
    where
      by : (b : Bool) → breaks terms r f ≡ b → cond b (Some r) (first_broken terms f others) ≡ Some rule → (first_broken terms f others ≡ Some rule → breaks terms rule f ≡ true) → breaks terms rule f ≡ true
      by true e is more = let same : r ≡ rule = cc in subst (λ (t : Rule). breaks terms t f ≡ true) same e
      by false e is more = more is

  -- each rule is among them all
  pick : AreKept all_rules → (rule : Rule) → breaks terms rule f ≡ false
  pick kept MostItems = kept.0
  pick kept MostPairs = kept.1.0
  pick kept MostBytes = kept.1.1.0
  pick kept ShortestHeads = kept.1.1.1.0
  pick kept DefiniteLengths = kept.1.1.1.1.0
  pick kept PlainKeys = kept.1.1.1.1.1.0
  pick kept AscendingKeys = kept.1.1.1.1.1.1.0
  pick kept UniqueKeys = kept.1.1.1.1.1.1.1.0
  pick kept ReducedNumbers = kept.1.1.1.1.1.1.1.1.0
  pick kept ShortestFloats = kept.1.1.1.1.1.1.1.1.1.0
  pick kept OneNan = kept.1.1.1.1.1.1.1.1.1.1.0
  pick kept NoUndefined = kept.1.1.1.1.1.1.1.1.1.1.1.0
  pick kept NoTags = kept.1.1.1.1.1.1.1.1.1.1.1.1.0

  gather : ((rule : Rule) → breaks terms rule f ≡ false) → AreKept all_rules
  gather each = (each MostItems, (each MostPairs, (each MostBytes, (each ShortestHeads, (each DefiniteLengths, (each PlainKeys, (each AscendingKeys, (each UniqueKeys, (each ReducedNumbers, (each ShortestFloats, (each OneNan, (each NoUndefined, (each NoTags, tt)))))))))))))

-- ---- places

module _ (terms : Terms) where
  departs_none : (ps : List Place) → departure_in terms ps ≡ None → (rule : Rule) → AllByRecursion (λ (p : Place). breaks terms rule p.feature ≡ false) ps
  departs_none [] none rule = tt
  departs_none (p ∷ ps) none rule = by (broken terms p.feature) refl none (λ none. departs_none ps none rule)
    where
      by : (o : Option Rule) → broken terms p.feature ≡ o → departure_or p.offset (departure_in terms ps) o ≡ None → (departure_in terms ps ≡ None → AllByRecursion (λ (p : Place). breaks terms rule p.feature ≡ false) ps) → (breaks terms rule p.feature ≡ false) × AllByRecursion (λ (p : Place). breaks terms rule p.feature ≡ false) ps
      by None e none more = (pick terms p.feature (none_kept terms p.feature all_rules e) rule, more none)
      by (Some r) e none more = absurd cc

  kept_departs : (ps : List Place) → ((rule : Rule) → AllByRecursion (λ (p : Place). breaks terms rule p.feature ≡ false) ps) → departure_in terms ps ≡ None
  kept_departs [] each = refl
  kept_departs (p ∷ ps) each =
      let none : broken terms p.feature ≡ None = kept_none terms p.feature all_rules (gather terms p.feature (λ rule. (each rule).0)) in
      rw none (kept_departs ps (λ rule. (each rule).1))

pub none_where_kept : NoneWhereKept
unfolding first_departure
none_where_kept terms item = (departs_none terms (features 0 item), kept_departs terms (features 0 item))

-- ---- offsets ascend

-- the offsets ascend, from the one to the other at the most
abbrev Climbs : ℕ → ℕ → List Place → Type 0
Climbs low high [] = low ≤ high
Climbs low high (p ∷ ps) = (low ≤ p.offset) × Climbs p.offset high ps

climbs_from : (low mid high : ℕ) (ps : List Place) → low ≤ mid → Climbs mid high ps → Climbs low high ps
climbs_from low mid high [] le climbs = omega (arith, le, climbs)
climbs_from low mid high (p ∷ ps) le climbs = (omega (arith, le, climbs.0), climbs.1)

climbs_then : (low mid high : ℕ) (ps qs : List Place) → Climbs low mid ps → Climbs mid high qs → Climbs low high (ps ++ qs)
climbs_then low mid high [] qs one other = climbs_from low mid high qs one other
climbs_then low mid high (p ∷ ps) qs one other = (one.0, climbs_then p.offset mid high ps qs one.1 other)

climbs_to : (low mid high : ℕ) (ps : List Place) → Climbs low mid ps → mid ≤ high → Climbs low high ps
climbs_to low mid high [] one le = omega (arith, one, le)
climbs_to low mid high (p ∷ ps) one le = (one.0, climbs_to p.offset mid high ps one.1 le)

chunks_climb : (major : ℕ) (cs : List Chunk) (sum at high : ℕ) → at + length (flat_map (chunk major) cs) ≤ high → Climbs at high (chunk_places at major sum cs)
chunks_climb major [] sum at high le = omega (arith, le)
chunks_climb major (c ∷ cs) sum at high le =
    let front = head major c.width (length c.bytes) in (
      omega arith,
      (
        omega arith,
        climbs_from (at + length front) (at + length (chunk major c)) high (chunk_places (at + length (chunk major c)) major (sum + length c.bytes) cs)
            (omega (arith, length-append front c.bytes))
            (chunks_climb major cs (sum + length c.bytes) (at + length (chunk major c)) high (omega (arith, le, length-append (chunk major c) (flat_map (chunk major) cs)))),
      ),
    )

mutual
  unfolding spell features

  climb : (r : Raw) (at high : ℕ) → at + length (spell r) ≤ high → Climbs at high (features at r)
  climb (raw.unsigned w n) at high le = (omega arith, le)
  climb (raw.negative w n) at high le = (omega arith, le)
  climb (raw.bytes c) at high le = (omega arith, omega (arith, le, length-append (head 2 c.width (length c.bytes)) c.bytes))
  climb (raw.text c) at high le = (omega arith, omega (arith, le, length-append (head 3 c.width (length c.bytes)) c.bytes))
  climb (raw.bytes_chunks cs) at high le = (omega arith, chunks_climb 2 cs 0 (suc at) high (omega (arith, le, length-append (flat_map (chunk 2) cs) break)))
  climb (raw.text_chunks cs) at high le = (omega arith, chunks_climb 3 cs 0 (suc at) high (omega (arith, le, length-append (flat_map (chunk 3) cs) break)))
  climb (raw.array (definite w) rs) at high le =
      let front = head 4 w (count rs) in
      (omega arith, all_climb rs (at + length front) high (omega (arith, le, length-append front (spell_all rs))))
  climb (raw.array indefinite rs) at high le = (omega arith, open_climb rs 0 (suc at) high (omega (arith, le, length-append (spell_all rs) break)))
  climb (raw.map (definite w) ps) at high le =
      let front = head 5 w (pair_count ps) in
      (omega arith, pairs_climb ps [] (at + length front) high (omega (arith, le, length-append front (spell_pairs ps))))
  climb (raw.map indefinite ps) at high le = (omega arith, pairs_climb ps [] (suc at) high (omega (arith, le, length-append (spell_pairs ps) break)))
  climb (raw.tag w n r) at high le =
      let front = head 6 w n in
      (omega arith, climb r (at + length front) high (omega (arith, le, length-append front (spell r))))
  climb (raw.simple s) at high le = (omega arith, omega (arith, le))
  climb (raw.float w bits) at high le = (omega arith, le)

  all_climb : (rs : Raws) (at high : ℕ) → at + length (spell_all rs) ≤ high → Climbs at high (all_features at rs)
  all_climb no_raws at high le = omega (arith, le)
  all_climb (raw.raw r rs) at high le =
      let mid = at + length (spell r) in
      climbs_then at mid high (features at r) (all_features mid rs) (climb r at mid (omega arith))
      (all_climb rs mid high (omega (arith, le, length-append (spell r) (spell_all rs))))

  open_climb : (rs : Raws) (earlier at high : ℕ) → at + length (spell_all rs) ≤ high → Climbs at high (open_features at earlier rs)
  open_climb no_raws earlier at high le = omega (arith, le)
  open_climb (raw.raw r rs) earlier at high le =
      let mid = at + length (spell r) in
      climbs_then at mid high (features at r) _ (climb r at mid (omega arith)) (
        omega arith,
        open_climb rs (earlier + 1) mid high (omega (arith, le, length-append (spell r) (spell_all rs))),
      )

  pairs_climb : (ps : RawPairs) (earlier : List (List ℕ)) (at high : ℕ) → at + length (spell_pairs ps) ≤ high → Climbs at high (pair_features at earlier ps)
  pairs_climb no_raw_pairs earlier at high le = omega (arith, le)
  pairs_climb (raw_pair k v ps) earlier at high le =
      let here = at + length (spell k) in
      let there = at + length (spell k) + length (spell v) in
      climbs_then at here high (features at k) _ (climb k at here (omega arith)) (
        omega arith,
        climbs_then here there high (features here v) (pair_features there (spell k ∷ earlier) ps) (climb v here there (omega arith))
            (pairs_climb ps (spell k ∷ earlier) there high (omega (arith, le, length-append (spell k) (spell v ++ spell_pairs ps), length-append (spell v) (spell_pairs ps)))),
      )

-- ---- the first

module _ (terms : Terms) (offset : ℕ) where
  -- a place of lesser offset breaks no rule
  abbrev NoneBefore : Place → Type 0
  NoneBefore p = (rule : Rule) → breaks terms rule p.feature ≡ true → offset ≤ p.offset

  all_behind : (low high : ℕ) (ps : List Place) → offset ≤ low → Climbs low high ps → AllByRecursion NoneBefore ps
  all_behind low high [] le climbs = tt
  all_behind low high (p ∷ ps) le climbs = (λ rule breaks. omega (arith, le, climbs.0), all_behind p.offset high ps (omega (arith, le, climbs.0)) climbs.1)

module _ (terms : Terms) (d : Departure) where
  rule_or : Option Departure → Rule
  rule_or None = ShortestHeads
  rule_or (Some e) = e.rule

  offset_or : Option Departure → ℕ
  offset_or None = 0
  offset_or (Some e) = e.offset

  first_in : (ps : List Place) (low high : ℕ) → Climbs low high ps → departure_in terms ps ≡ Some d → IsFirst terms ps d
  unfolding rule_or offset_or
  first_in [] low high climbs is = absurd cc
  first_in (p ∷ ps) low high climbs is = by (broken terms p.feature) refl is (λ is. first_in ps p.offset high climbs.1 is)
    where
      by : (o : Option Rule) → broken terms p.feature ≡ o → departure_or p.offset (departure_in terms ps) o ≡ Some d → (departure_in terms ps ≡ Some d → IsFirst terms ps d) → IsFirst terms (p ∷ ps) d
      by None e is more =
          let later = more is in
          record {
            place = later.place;
            among = (suc later.among.0, omega (arith, later.among.1), later.among.2);
            there = later.there;
            breaks_rule = later.breaks_rule;
            first = (λ rule breaking. absurd (let kept = pick terms p.feature (none_kept terms p.feature all_rules e) rule in cc), later.first);
          }
      by (Some rule) e is more =
          let same : rule ≡ d.rule = ap rule_or is in
          let at : p.offset ≡ d.offset = ap offset_or is in
          record {
            place = p;
            among = (0, omega arith, refl);
            there = at;
            breaks_rule = subst (λ (t : Rule). breaks terms t p.feature ≡ true) same (some_breaks terms p.feature all_rules rule e);
            first = (λ rule breaking. omega (arith, at), all_behind terms d.offset p.offset high ps (omega (arith, at)) climbs.1);
          }

pub first_is_least : FirstIsLeast
unfolding first_departure
first_is_least terms item d is =
    first_in terms d (features 0 item) 0 (length (spell item)) (climb item 0 (length (spell item)) (omega arith)) is
