-- Where memory runs out, going through the bytes for keys departs; so the item that they encode has
-- a pair.
use Rattle.std.proofs.Common.{◌≡◌, ◌⊎◌, ◌∙◌, ℕ, zero, suc, ◌+◌, ◌-◌, ◌<◌, ◌≤◌, ◌/◌, ◌%◌, Bool, false, List, [], ◌∷◌, ◌++◌, length, Option, Some, None, inl, inr, refl, sym, ap, subst, arith}
use Rattle.std.specs.Prelude.{◌&&◌}
use Rattle.cbor_model.specs.Raw as raw
use Rattle.cbor_model.specs.Raw.{Chunk, Raw, Raws, no_raws, no_raw_pairs, raw_pair, definite, indefinite, count, IsWellFormed}
use Rattle.cbor_model.specs.Spelling.{spell, chunk}
use Rattle.cbor_rules.specs.Features.{Place, place, head_end, nth_item, chunk_places, features, all_features, open_features}
use Rattle.cbor_rules.specs.Rules.{departure_or}
use Rattle.cbor_rules.specs.Unique.{HasPair, HavePair}
use Rattle.cbor_rules.specs.Walk as model
use Rattle.cbor_rules.specs.Walk.{any_key, found, and_then, is_break, all_walk, open_walk, pairs_walk, content_walk}
use Rattle.cbor_rules.specs.Walks.{HadMemory, IsDeparted, EndsForMemory}
use Rattle.cbor_rules.specs.declared.settings.Rule.{Rule}
use Rattle.cbor_rules.specs.declared.settings.Rules.{Rules}
use Rattle.cbor_rules.specs.declared.answers.Departure.{Departure}
use Rattle.cbor_rules.specs.declared.walk.Walk.{Walk}
use Rattle.cbor_rules.specs.declared.walk.Walk.TheVariants.{Passed, Departed, Stopped, NoMemory}
use Rattle.cbor_rules.proofs.Followed.{GoesTo, then_departs}
use Rattle.cbor_rules.proofs.Walked.{Answers, found_in}
use Rattle.cbor_rules.proofs.Walking.{all_begin, all_step, open_begin, open_step, behind_item, behind_key, pairs_begin}
use Rattle.cbor_rules.proofs.WalkReports.{item_answers}

departs_as : (w u : model.Walk) → w ≡ u → IsDeparted u → IsDeparted w
departs_as w u same departs = subst IsDeparted (sym same) departs

-- ---- an answer that a callee gave

pub ends_never : (rules : Rules) (bs : List ℕ) (go : ℕ → List ℕ → model.Walk) (r : Walk) → HadMemory r → EndsForMemory rules bs go r
ends_never rules bs go (Passed left) had = tt
ends_never rules bs go (Departed rule left) had = tt
ends_never rules bs go Stopped had = tt
ends_never rules bs go NoMemory had = absurd had

-- of a part of the bytes
pub ends_part : (rules : Rules) (part bs : List ℕ) (go go' : ℕ → List ℕ → model.Walk) (r : Walk) → length part ≤ length bs
    → ((fuel : ℕ) → length bs ≤ fuel → IsDeparted (go fuel part) → IsDeparted (go' fuel bs)) → EndsForMemory rules part go r → EndsForMemory rules bs go' r
ends_part rules part bs go go' (Passed left) le more ends = tt
ends_part rules part bs go go' (Departed rule left) le more ends = tt
ends_part rules part bs go go' Stopped le more ends = tt
ends_part rules part bs go go' NoMemory le more ends = (ends.0, λ fuel enough. more fuel enough (ends.1 fuel (omega (arith, le, enough))))

-- of the same bytes
pub ends_same : (rules : Rules) (bs : List ℕ) (go go' : ℕ → List ℕ → model.Walk) (r : Walk) → ((fuel : ℕ) → go' fuel bs ≡ go fuel bs) → EndsForMemory rules bs go r → EndsForMemory rules bs go' r
ends_same rules bs go go' r same = ends_part rules bs bs go go' r (omega arith) (λ fuel enough. departs_as (go' fuel bs) (go fuel bs) (same fuel))

-- of what follows the first byte
first_departs : (fuel : ℕ) (bs : List ℕ) (b : ℕ) (rest : List ℕ) → bs ≡ b ∷ rest → length bs ≤ fuel
    → ((fuel : ℕ) → length rest ≤ fuel → IsDeparted (content_walk any_key (model.walk any_key fuel) (b / 32) (b % 32) rest)) → IsDeparted (model.walk any_key fuel bs)
unfolding model.walk
first_departs zero bs b rest is enough departs = absurd (omega (arith, ap length is, enough))
first_departs (suc fuel) bs b rest is enough departs =
    departs_as (model.walk any_key (suc fuel) bs) (content_walk any_key (model.walk any_key fuel) (b / 32) (b % 32) rest) (ap (model.walk any_key (suc fuel)) is) (departs fuel (omega (arith, ap length is, enough)))

pub ends_first : (rules : Rules) (bs : List ℕ) (b : ℕ) (rest : List ℕ) (r : Walk) → bs ≡ b ∷ rest
    → EndsForMemory rules rest (λ fuel. content_walk any_key (model.walk any_key fuel) (b / 32) (b % 32)) r → EndsForMemory rules bs (model.walk any_key) r
ends_first rules bs b rest (Passed left) is ends = tt
ends_first rules bs b rest (Departed rule left) is ends = tt
ends_first rules bs b rest Stopped is ends = tt
ends_first rules bs b rest NoMemory is ends = (ends.0, λ fuel enough. first_departs fuel bs b rest is enough ends.1)

-- ---- items and pairs

-- it goes on so, or departed before
abbrev pub GoesOn : model.Walk → model.Walk → Type 0
GoesOn w u = (w ≡ u) ⊎ IsDeparted w

pub on_departs : (w u : model.Walk) → GoesOn w u → IsDeparted u → IsDeparted w
on_departs w u (inl same) departs = departs_as w u same departs
on_departs w u (inr already) departs = already

module _ (q : List ℕ → model.Walk) (n i : ℕ) (lt : i < n) (rest : List ℕ) where
  pub all_departs : IsDeparted (q rest) → IsDeparted (all_walk q (n - i) rest)
  all_departs departs = departs_as _ _ (all_begin q n i lt rest) (then_departs (q rest) (all_walk q (n - (i + 1))) departs)

  pub all_goes : (w : model.Walk) (next : List ℕ) → GoesOn w (all_walk q (n - i) rest) → GoesTo next (q rest) → GoesOn w (all_walk q (n - (i + 1)) next)
  all_goes w next (inl same) (inl is) = inl (same ∙ all_step q n i lt rest next is)
  all_goes w next (inl same) (inr departs) = inr (departs_as w (all_walk q (n - i) rest) same (all_departs departs))
  all_goes w next (inr departs) goes = inr departs

  module _ (on : is_break rest ≡ false) where
    pub open_depart : IsDeparted (q rest) → IsDeparted (open_walk any_key q (n - i) i rest)
    open_depart departs = departs_as _ _ (open_begin any_key q n i lt rest on) (then_departs (q rest) (behind_item any_key q n i lt rest) departs)

    pub open_goes : (w : model.Walk) (next : List ℕ) → GoesOn w (open_walk any_key q (n - i) i rest) → GoesTo next (q rest) → GoesOn w (open_walk any_key q (n - (i + 1)) (i + 1) next)
    open_goes w next (inl same) (inl is) = inl (same ∙ open_step any_key q n i lt rest on next is refl)
    open_goes w next (inl same) (inr departs) = inr (departs_as w (open_walk any_key q (n - i) i rest) same (open_depart departs))
    open_goes w next (inr departs) goes = inr departs

module _ (q : List ℕ → model.Walk) (is_open : Bool) (n i : ℕ) (lt : i < n) (rest : List ℕ) (on : (is_open && is_break rest) ≡ false) where
  module _ (earlier : List (List ℕ)) where
    pub pairs_depart : IsDeparted (q rest) → IsDeparted (pairs_walk any_key q is_open (n - i) earlier rest)
    pairs_depart departs = departs_as _ _ (pairs_begin any_key q is_open n i lt earlier rest on) (then_departs (q rest) (behind_key any_key q is_open n i lt earlier rest) departs)

    -- it departs at the key at the latest
    pub key_met : (at_value : List ℕ) → GoesTo at_value (q rest) → IsDeparted (pairs_walk any_key q is_open (n - i) earlier rest)
    key_met at_value (inl is) = departs_as _ _ (pairs_begin any_key q is_open n i lt earlier rest on ∙ ap (λ (w : model.Walk). and_then w (behind_key any_key q is_open n i lt earlier rest)) is) tt
    key_met at_value (inr departs) = pairs_depart departs

-- ---- keys among the features

no_chunk : (major : ℕ) (cs : List Chunk) (at sum : ℕ) → found_in any_key (chunk_places at major sum cs) ≡ None
no_chunk major [] at sum = refl
no_chunk major (c ∷ cs) at sum = no_chunk major cs (at + length (chunk major c)) (sum + length c.bytes)

-- behind places that are no keys
none_before : (ps qs : List Place) → found_in any_key ps ≡ None → found_in any_key (ps ++ qs) ≡ found_in any_key qs
none_before [] qs none = refl
none_before (p ∷ ps) qs none = by (found any_key p.feature) none (none_before ps qs)
  where
    by : (o : Option Rule) → departure_or p.offset (found_in any_key ps) o ≡ None → (found_in any_key ps ≡ None → found_in any_key (ps ++ qs) ≡ found_in any_key qs) → departure_or p.offset (found_in any_key (ps ++ qs)) o ≡ found_in any_key qs
    by None none more = more none
    by (Some rule) none more = absurd cc

-- some place is a key
abbrev AreMet : List Place → Type 0
AreMet ps = found_in any_key ps ≡ None → ⊥

met_before : (ps qs : List Place) → AreMet (ps ++ qs) → AreMet ps ⊎ AreMet qs
met_before ps qs met = by (found_in any_key ps) refl
  where
    by : (o : Option Departure) → found_in any_key ps ≡ o → AreMet ps ⊎ AreMet qs
    by None is = inr (λ none. met (none_before ps qs is ∙ none))
    by (Some d) is = inl (λ none. absurd (let both = sym is ∙ none in cc))

mutual
  unfolding features

  has_pair : (r : Raw) (at : ℕ) → AreMet (features at r) → HasPair r
  has_pair (raw.unsigned w n) at met = met refl
  has_pair (raw.negative w n) at met = met refl
  has_pair (raw.bytes c) at met = met refl
  has_pair (raw.text c) at met = met refl
  has_pair (raw.bytes_chunks cs) at met = met (no_chunk 2 cs (suc at) 0)
  has_pair (raw.text_chunks cs) at met = met (no_chunk 3 cs (suc at) 0)
  has_pair (raw.array (definite w) rs) at met = have_pair rs (head_end at 4 w (count rs)) met
  has_pair (raw.array indefinite rs) at met = open_pair rs (suc at) 0 met
  has_pair (raw.map (definite w) no_raw_pairs) at met = absurd (met refl)
  has_pair (raw.map indefinite no_raw_pairs) at met = absurd (met refl)
  has_pair (raw.map (definite w) (raw_pair k v ps)) at met = omega arith
  has_pair (raw.map indefinite (raw_pair k v ps)) at met = omega arith
  has_pair (raw.tag w n r) at met = has_pair r (head_end at 6 w n) met
  has_pair (raw.simple s) at met = met refl
  has_pair (raw.float w bits) at met = met refl

  have_pair : (rs : Raws) (at : ℕ) → AreMet (all_features at rs) → HavePair rs
  have_pair no_raws at met = met refl
  have_pair (raw.raw r rs) at met = elim (met_before (features at r) (all_features (at + length (spell r)) rs) met) [
    | inl one ↦ inl (has_pair r at one)
    | inr others ↦ inr (have_pair rs (at + length (spell r)) others)
  ]

  open_pair : (rs : Raws) (at earlier : ℕ) → AreMet (open_features at earlier rs) → HavePair rs
  open_pair no_raws at earlier met = met refl
  open_pair (raw.raw r rs) at earlier met = elim (met_before (features at r) (place (at + length (spell r)) (nth_item earlier) ∷ open_features (at + length (spell r)) (earlier + 1) rs) met) [
    | inl one ↦ inl (has_pair r at one)
    | inr others ↦ inr (open_pair rs (at + length (spell r)) (earlier + 1) others)
  ]

some_answered : (total : ℕ) (rest : List ℕ) (o : Option Departure) (w : model.Walk) → Answers total rest o w → IsDeparted w → o ≡ None → ⊥
some_answered total rest None w answers departs none = subst IsDeparted answers departs
some_answered total rest (Some d) w answers departs none = absurd cc

-- going through all of an item's bytes for keys departs, so it has one
pub key_of_item : (bs : List ℕ) (r : Raw) → IsWellFormed r → spell r ≡ bs → ((fuel : ℕ) → length bs ≤ fuel → IsDeparted (model.walk any_key fuel bs)) → HasPair r
key_of_item bs r fits is departs =
    let answers = item_answers any_key bs r fits is in
    has_pair r 0 (some_answered (length bs) [] (found_in any_key (features 0 r)) (model.walk any_key answers.0 bs) answers.2 (departs answers.0 answers.1))
