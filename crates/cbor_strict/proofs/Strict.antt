-- Strict reading.
use Rattle.std.proofs.Common.{◌≡◌, ℕ, suc, ◌+◌, ◌^◌, ◌<◌, ◌≤◌, List, [], ◌∷◌, length, take, refl, sym, ap, subst, ◌∙◌, arith, inl, inr}
use Rattle.std.specs.List.{Contains}
use Rattle.std.proofs.lemmas.Bool.{cases_lt}
use Rattle.std.proofs.lemmas.List.{append-nil, length-take, take-take}
use Rattle.cbor_model.specs.Raw.{Raw, depth}
use Rattle.cbor_model.specs.Spelling.{spell, BeginsSpelling}
use Rattle.cbor_model.specs.Acceptable.{IsAcceptable, max_depth}
use Rattle.cbor_model.specs.Value.{value}
use Rattle.cbor_model.specs.Canonical.{canonical, canon}
use Rattle.cbor_strict.specs.Departure.{departures, DepartsAt, IsFirstDeparture, ShowsDeparture}
use Rattle.cbor_strict.specs.Walk.{departed, walk, walk_of}
use Rattle.cbor_strict.specs.Strict.{IsFirstShown}
use Rattle.cbor_strict.specs.Strict as laws
use Rattle.cbor_model.proofs.order.Apart.{one_spelling}
use Rattle.cbor_model.proofs.values.Canonical.{value_is_canonical}
use Rattle.cbor_strict.proofs.Clean.{clean, canonical_clean}
use Rattle.cbor_strict.proofs.Walked.{clean_key, keys_compare}
use Rattle.cbor_strict.proofs.WalkFronts.{walk_fuel}
use Rattle.cbor_strict.proofs.Departed.{first_listed, departs_first, shown_departs, departed_shows}

-- ---- departures of an item

-- an item that departs nowhere has none listed
pub none_listed : (r : Raw) → ((i : ℕ) → DepartsAt r i → ⊥) → departures 0 r ≡ []
none_listed r none = by_list (departures 0 r) refl
  where
    by_list : (xs : List ℕ) → departures 0 r ≡ xs → departures 0 r ≡ []
    by_list [] is = is
    by_list (j ∷ js) is = absurd (none j (first_listed r j js is).departs)

pub listed_none : (r : Raw) → departures 0 r ≡ [] → (i : ℕ) → DepartsAt r i → ⊥
listed_none r is i has =
    let none : Contains [] i = subst (λ (xs : List ℕ). Contains xs i) is has in
    omega (arith, none.1)

-- where the spelling is the canonical one, the item is the canonical one
canonical_item : (r : Raw) → IsAcceptable r → length (spell r) < 2 ^ 64 → spell r ≡ canon (value r) → r ≡ canonical (value r)
unfolding canon
canonical_item r good short same =
    let made = value_is_canonical max_depth r good short in
    (one_spelling r (canonical (value r)) [] good.fits made.2.fits (append-nil (spell r) ∙ same)).0

pub none_where_canonical : (r : Raw) → IsAcceptable r → length (spell r) < 2 ^ 64 → (((i : ℕ) → DepartsAt r i → ⊥) → spell r ≡ canon (value r)) × (spell r ≡ canon (value r) → (i : ℕ) → DepartsAt r i → ⊥)
unfolding canon
none_where_canonical r good short = (
  λ none. ap spell (clean 0 r good.fits (none_listed r none)),
  λ same. listed_none r (ap (departures 0) (canonical_item r good short same) ∙ canonical_clean 0 (value r) (value_is_canonical max_depth r good short).1),
)

pub keys_compare_by_bytes : laws.KeysCompareByBytes
keys_compare_by_bytes k l fits fits' none none' =
    keys_compare k l (clean_key 0 k fits (none_listed k none)) (clean_key 0 l fits' (none_listed l none'))

-- ---- a walk over whole bytes

-- as over the spelling, with fuel enough
abbrev pub enough : List ℕ → Raw → ℕ
enough bs r = suc (depth r + length bs)

pub walk_whole : (bs : List ℕ) (r : Raw) → spell r ≡ bs → walk_of bs ≡ walk (enough bs r) (spell r)
walk_whole bs r spelled = walk_fuel (length bs) (enough bs r) bs (omega arith) (omega arith) ∙ ap (walk (enough bs r)) (sym spelled)

-- ---- what is refused

-- what the front shows, the bytes show, and the other way round as far as the front goes
module _ (o : ℕ) (bs : List ℕ) where
  front_long : length (take o bs) ≤ o
  front_long = omega (arith, length-take o bs)

  same_front : (j : ℕ) → j ≤ o → take j (take o bs) ≡ take j bs
  same_front j le = take-take j o bs le

  pub from_front : (j : ℕ) → ShowsDeparture (take o bs) j → ShowsDeparture bs j
  from_front j shows =
      let same = same_front j (omega (arith, shows.within, front_long)) in
      record {
        within = omega (arith, shows.within, length-take o bs);
        begins = subst BeginsSpelling same shows.begins;
        each = subst (λ (front : List ℕ). (spelt : BeginsSpelling front) → DepartsAt spelt.item j) same shows.each;
      }

  pub to_front : (j : ℕ) → j ≤ o → ShowsDeparture bs j → ShowsDeparture (take o bs) j
  to_front j le shows =
      let same = sym (same_front j le) in
      record {
        within = omega (arith, shows.within, length-take o bs, le);
        begins = subst BeginsSpelling same shows.begins;
        each = subst (λ (front : List ℕ). (spelt : BeginsSpelling front) → DepartsAt spelt.item j) same shows.each;
      }

  -- the first place of the front is the first of all
  pub first_of_front : (j : ℕ) → IsFirstShown (take o bs) j → IsFirstShown bs j
  first_of_front j shown = record {
    shows = from_front j shown.shows;
    first = λ i shows.
        elim (cases_lt o i) [
          | inl above ↦ omega (arith, above, shown.shows.within, front_long)
          | inr le ↦ shown.first i (to_front i le shows)
        ];
  }

  -- where a walk over the front doesn't depart, nothing is shown as far as it goes
  pub shown_behind : ((left : ℕ) → walk_of (take o bs) ≡ departed left → ⊥) → (i : ℕ) → ShowsDeparture bs i → o < i
  shown_behind none i shows =
      elim (cases_lt o i) [
        | inl above ↦ above
        | inr le ↦
            let d = shown_departs (take o bs) i (to_front i le shows) in
            absurd (none d.0 d.1)
      ]

-- the first departure that the spelling shows is the item's first
pub first_of_item : laws.FirstShownIsFirst
first_of_item bs r j are fits spelled shown =
    let d = shown_departs bs j shown.shows in
    let s = departed_shows bs d.0 are d.1 in
    let f = departs_first r (enough bs r) fits (omega arith) d.0 (sym (walk_whole bs r spelled) ∙ d.1) in
    let same : f.0 ≡ j = omega (arith, f.1, s.1, ap length spelled, shown.first s.0 s.2.shows, s.2.first j shown.shows) in
    subst (IsFirstDeparture r) same f.2
