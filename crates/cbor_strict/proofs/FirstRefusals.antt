-- The first refusal of strict reading: that of ordinary reading, or the first departure.
use Rattle.std.proofs.Common.{◌≡◌, ◌⊎◌, ℕ, ◌^◌, ◌<◌, ◌≤◌, List, length, None, refl, sym, ap, subst, ◌∙◌, arith, inl, inr}
use Rattle.std.proofs.lemmas.Bool.{cases_lt}
use Rattle.cbor_model.specs.Raw.{AreBytes}
use Rattle.cbor_model.specs.Refusal.{Refusal, end_in_value, end_in_array, end_in_map, length_out_of_range, invalid_utf8, unassigned_code, unexpected_code, trailing_data, too_deep, scratch_too_small, wrong_struct_format}
use Rattle.cbor_model.specs.Allowed.{Limits, limits_of, IsAllowed, IsEnd, IsFirstRefusal}
use Rattle.cbor_model.specs.Laws.{SpellsValue}
use Rattle.cbor_model.specs.Plain.{Val}
use Rattle.cbor_model.proofs.facts.Refusals.{spelled_allows_none}
use Rattle.cbor_strict.specs.Departure.{ShowsDeparture}
use Rattle.cbor_strict.specs.Strict.{IsFirstShown}
use Rattle.cbor_strict.specs.StrictRefusals.{StrictRefusal, ordinary, not_canonical, IsAllowedStrictly, IsBeforeStrictly, IsFirstStrictRefusal, OneFirstStrictRefusal}
use Rattle.cbor_strict.proofs.InvalidTexts.{shown_behind_text}

-- ---- offsets and places

-- an offset lies no further than the place; but of a text that isn't UTF-8 it is the place
offset_le : (l : Limits) (bs : List ℕ) (why : Refusal) (place offset : ℕ) → IsAllowed l bs why place offset → offset ≤ place
offset_le l bs invalid_utf8 place offset a = omega (arith, a.offset_is)
offset_le l bs wrong_struct_format place offset a = absurd a
offset_le l bs end_in_value place offset a = omega (arith, a.1)
offset_le l bs end_in_array place offset a = omega (arith, a.1)
offset_le l bs end_in_map place offset a = omega (arith, a.1)
offset_le l bs length_out_of_range place offset a = omega (arith, a.1)
offset_le l bs unassigned_code place offset a = omega (arith, a.1)
offset_le l bs unexpected_code place offset a = omega (arith, a.1)
offset_le l bs trailing_data place offset a = omega (arith, a.1)
offset_le l bs too_deep place offset a = omega (arith, a.1)
offset_le l bs scratch_too_small place offset a = omega (arith, a.1)

-- and of a text that isn't, before it
offset_lt : (l : Limits) (bs : List ℕ) (why : Refusal) (place offset : ℕ) → IsAllowed l bs why place offset → why ≡ invalid_utf8 → offset < place
offset_lt l bs why place offset a is =
    let text = subst (λ (w : Refusal). IsAllowed l bs w place offset) is a in
    omega (arith, text.offset_is, text.longest.short)

end_is_no_text : (why : Refusal) → IsEnd why → why ≡ invalid_utf8 → ⊥
end_is_no_text why end is = subst IsEnd is end

-- ---- a departure comes first

-- where no ordinary refusal is allowed
pub departs_alone : (bs : List ℕ) (v : Val) (j : ℕ) → length bs < 2 ^ 64 → SpellsValue bs v → IsFirstShown bs j → IsFirstStrictRefusal bs not_canonical j
departs_alone bs v j short spelt shown = record { place = j; allowed = (shown.shows, refl); first = by_why }
  where
    by_why : (why' : StrictRefusal) (place' offset' : ℕ) → IsAllowedStrictly bs why' place' offset' → ((why' ≡ not_canonical) × (place' ≡ j) × (offset' ≡ j)) ⊎ IsBeforeStrictly not_canonical j why' place'
    by_why (ordinary why') place' offset' a = absurd (spelled_allows_none None bs v short spelt tt why' place' offset' a)
    by_why not_canonical place' offset' a =
        let le = shown.first place' a.0 in
        elim (cases_lt j place') [
          | inl lt ↦ inr lt
          | inr ge ↦
              let same : place' ≡ j = omega (arith, le, ge) in
              inl (refl, same, a.1 ∙ same)
        ]

module _ (bs : List ℕ) (why : Refusal) (offset : ℕ) (f : IsFirstRefusal (limits_of None) bs why offset) where
  -- where the first ordinary one reports an offset no less
  pub departs_before : (j : ℕ) → j ≤ offset → IsFirstShown bs j → IsFirstStrictRefusal bs not_canonical j
  departs_before j early shown = record { place = j; allowed = (shown.shows, refl); first = by_why }
    where
      le : j ≤ f.place
      le = omega (arith, early, offset_le (limits_of None) bs why f.place offset f.allowed)

      -- one that doesn't come before the first ordinary one
      behind : (why' : Refusal) (place' : ℕ) → j ≤ place' → (place' ≡ j → why' ≡ invalid_utf8 → ⊥) → IsBeforeStrictly not_canonical j (ordinary why') place'
      behind why' place' le' no_text =
          elim (cases_lt j place') [
            | inl lt ↦ inl lt
            | inr ge ↦
                let same : place' ≡ j = omega (arith, le', ge) in
                inr (sym same, no_text same)
          ]

      by_why : (why' : StrictRefusal) (place' offset' : ℕ) → IsAllowedStrictly bs why' place' offset' → ((why' ≡ not_canonical) × (place' ≡ j) × (offset' ≡ j)) ⊎ IsBeforeStrictly not_canonical j why' place'
      by_why not_canonical place' offset' a =
          let le' = shown.first place' a.0 in
          elim (cases_lt j place') [
            | inl lt ↦ inr lt
            | inr ge ↦
                let same : place' ≡ j = omega (arith, le', ge) in
                inl (refl, same, a.1 ∙ same)
          ]
      by_why (ordinary why') place' offset' a =
          elim (f.first why' place' offset' a) [
            | inl same ↦
                inr (behind why' place' (omega (arith, le, same.1)) (λ here is.
                let lt = offset_lt (limits_of None) bs why f.place offset f.allowed (sym same.0 ∙ is) in
                omega (arith, lt, early, here, same.1)))
            | inr before ↦
                elim before [
                  | inl lt ↦ inl_of (omega (arith, le, lt))
                  | inr tie ↦ inr (behind why' place' (omega (arith, le, tie.0)) (λ here is. end_is_no_text why' tie.2 is))
                ]
          ]
        where
          inl_of : j < place' → ((ordinary why' ≡ not_canonical) × (place' ≡ j) × (offset' ≡ j)) ⊎ IsBeforeStrictly not_canonical j (ordinary why') place'
          inl_of lt = inr (inl lt)

  -- ---- a fault of ordinary reading comes first

  -- where each departure is shown after its offset
  module _ (fits : AreBytes bs) (none : (i : ℕ) → ShowsDeparture bs i → offset < i) where
    -- it is shown after its place, or there, if that is a text's end
    shown_behind : (i : ℕ) → ShowsDeparture bs i → (f.place < i) ⊎ ((f.place ≡ i) × (why ≡ invalid_utf8))
    shown_behind i shows = by_why why refl f.allowed
      where
        here : offset ≡ f.place → (f.place < i) ⊎ ((f.place ≡ i) × (why ≡ invalid_utf8))
        here same = inl (omega (arith, same, none i shows))

        by_why : (w : Refusal) → why ≡ w → IsAllowed (limits_of None) bs w f.place offset → (f.place < i) ⊎ ((f.place ≡ i) × (why ≡ invalid_utf8))
        by_why invalid_utf8 is a =
            let le = shown_behind_text bs fits f.place offset a none i shows in
            elim (cases_lt f.place i) [
              | inl lt ↦ inl lt
              | inr ge ↦ inr ((let same : f.place ≡ i = omega (arith, le, ge) in same), is)
            ]
        by_why wrong_struct_format is a = absurd a
        by_why end_in_value is a = here a.1
        by_why end_in_array is a = here a.1
        by_why end_in_map is a = here a.1
        by_why length_out_of_range is a = here a.1
        by_why unassigned_code is a = here a.1
        by_why unexpected_code is a = here a.1
        by_why trailing_data is a = here a.1
        by_why too_deep is a = here a.1
        by_why scratch_too_small is a = here a.1

    pub fault_before : IsFirstStrictRefusal bs (ordinary why) offset
    fault_before = record { place = f.place; allowed = f.allowed; first = by_why }
      where
        by_why : (why' : StrictRefusal) (place' offset' : ℕ) → IsAllowedStrictly bs why' place' offset' → ((why' ≡ ordinary why) × (place' ≡ f.place) × (offset' ≡ offset)) ⊎ IsBeforeStrictly (ordinary why) f.place why' place'
        by_why not_canonical place' offset' a = inr (shown_behind place' a.0)
        by_why (ordinary why') place' offset' a =
            elim (f.first why' place' offset' a) [
              | inl same ↦ inl (ap ordinary same.0, same.1, same.2)
              | inr before ↦ inr before
            ]

-- ---- one first

-- of two, both before the other, none is
never_both : (why why' : StrictRefusal) (place place' : ℕ) → IsBeforeStrictly why place why' place' → IsBeforeStrictly why' place' why place → ⊥
never_both (ordinary why) (ordinary why') place place' (inl lt) (inl lt') = omega (arith, lt, lt')
never_both (ordinary why) (ordinary why') place place' (inl lt) (inr same) = omega (arith, lt, same.0)
never_both (ordinary why) (ordinary why') place place' (inr same) (inl lt') = omega (arith, lt', same.0)
never_both (ordinary why) (ordinary why') place place' (inr same) (inr same') = same.1 same'.2
never_both (ordinary why) not_canonical place place' (inl lt) (inl lt') = omega (arith, lt, lt')
never_both (ordinary why) not_canonical place place' (inl lt) (inr same) = omega (arith, lt, same.0)
never_both (ordinary why) not_canonical place place' (inr same) (inl lt') = omega (arith, lt', same.0)
never_both (ordinary why) not_canonical place place' (inr same) (inr same') = same'.1 same.1
never_both not_canonical (ordinary why') place place' (inl lt) (inl lt') = omega (arith, lt, lt')
never_both not_canonical (ordinary why') place place' (inl lt) (inr same) = omega (arith, lt, same.0)
never_both not_canonical (ordinary why') place place' (inr same) (inl lt') = omega (arith, lt', same.0)
never_both not_canonical (ordinary why') place place' (inr same) (inr same') = same.1 same'.1
never_both not_canonical not_canonical place place' lt lt' = omega (arith, lt, lt')

pub one_first_strict : OneFirstStrictRefusal
one_first_strict bs why why' offset offset' a b =
    elim (a.first why' b.place offset' b.allowed) [
      | inl same ↦ (sym same.0, sym same.2)
      | inr before ↦
          elim (b.first why a.place offset a.allowed) [
            | inl same ↦ (same.0, same.2)
            | inr after ↦ absurd (never_both why why' a.place b.place before after)
          ]
    ]
