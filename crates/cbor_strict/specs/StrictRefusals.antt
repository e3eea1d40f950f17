-- Which refusals strict reading allows of the bytes of an input, and which of them is the first. No
-- reader is among the definitions.
use Rattle.std.specs.Prelude.{◌≡◌, ◌≢◌, ◌⊎◌, ℕ, ◌<◌, List, None}
use Rattle.cbor_model.specs.Refusal.{Refusal, invalid_utf8}
use Rattle.cbor_model.specs.Allowed.{limits_of, IsAllowed, IsBefore}
use Rattle.cbor_strict.specs.Departure.{ShowsDeparture}

-- A refusal of ordinary reading, or that no canonical spelling goes on so.
pub data StrictRefusal : Type 0 where
  ordinary : Refusal → StrictRefusal
  not_canonical : StrictRefusal

-- The bytes of a whole input allow the refusal, at this place, and this offset is reported.
abbrev pub IsAllowedStrictly : List ℕ → StrictRefusal → ℕ → ℕ → Type 0
IsAllowedStrictly bytes (ordinary why) place offset =
    IsAllowed (limits_of None) bytes why place offset
IsAllowedStrictly bytes not_canonical place offset =
    ShowsDeparture bytes place × (offset ≡ place)

-- A refusal comes before another: its place is less. At one place a departure comes after a text
-- that isn't UTF-8, and before each other refusal.
abbrev pub IsBeforeStrictly : StrictRefusal → ℕ → StrictRefusal → ℕ → Type 0
IsBeforeStrictly (ordinary why) place (ordinary why') place' = IsBefore why place why' place'
IsBeforeStrictly (ordinary why) place not_canonical place' =
    (place < place') ⊎ ((place ≡ place') × (why ≡ invalid_utf8))
IsBeforeStrictly not_canonical place (ordinary why') place' =
    (place < place') ⊎ ((place ≡ place') × (why' ≢ invalid_utf8))
IsBeforeStrictly not_canonical place not_canonical place' = place < place'

-- The refusal is allowed, and comes before each other one that is.
pub record IsFirstStrictRefusal (bytes : List ℕ) (why : StrictRefusal) (offset : ℕ) : Type 0 where
  pub place : ℕ
  pub allowed : IsAllowedStrictly bytes why place offset
  pub first : (why' : StrictRefusal) (place' offset' : ℕ)
      → IsAllowedStrictly bytes why' place' offset'
      → ((why' ≡ why) × (place' ≡ place) × (offset' ≡ offset))
      ⊎ IsBeforeStrictly why place why' place'

-- ---- the law

-- No bytes have two first refusals.
abbrev pub OneFirstStrictRefusal : Type 0
OneFirstStrictRefusal = (bytes : List ℕ) (why why' : StrictRefusal) (offset offset' : ℕ)
    → IsFirstStrictRefusal bytes why offset → IsFirstStrictRefusal bytes why' offset'
    → (why ≡ why') × (offset ≡ offset')
