-- Where a key stands among the pairs of a map, or belongs, and what a search for it costs.
use Rattle.std.specs.Prelude.{◌≡◌, ℕ, zero, suc, ◌<◌, ◌≤◌, length, Result, MatchResult, refl}
use Rattle.std.specs.Int.Digits.{digits_of}
use Rattle.std.specs.declared.cmp.Ordering.TheVariants.{Equal, Greater}
use Rattle.cbor_model.specs.Canonical.{IsBelow}
use Rattle.cbor_model.specs.Order.{val_cmp}
use Rattle.cbor_model.specs.Plain.{Val, Pairs, no_pairs, pair}

-- the i-th pair has the key k, and those before it have keys below k
abbrev pub StandsAt : Val → ℕ → Pairs → Type 0
StandsAt k i no_pairs = ⊥
StandsAt k zero (pair l w ps) = val_cmp k l ≡ Equal
StandsAt k (suc i) (pair l w ps) = (val_cmp k l ≡ Greater) × StandsAt k i ps

-- the key k is missing, and belongs before the i-th pair
abbrev pub BelongsAt : Val → ℕ → Pairs → Type 0
BelongsAt k zero ps = IsBelow k ps
BelongsAt k (suc i) no_pairs = ⊥
BelongsAt k (suc i) (pair l w ps) = (val_cmp k l ≡ Greater) × BelongsAt k i ps

-- Ok is where the key k stands, and Err where it belongs.
abbrev pub IsPlaceOf : Val → Pairs → Result ℕ ℕ → Type 0
IsPlaceOf k ps place = MatchResult place (λ i. StandsAt k i ps) (λ i. BelongsAt k i ps)

-- Ok is the index of one of n pairs, and Err may also be the end.
abbrev pub IsPlaceIn : ℕ → Result ℕ ℕ → Type 0
IsPlaceIn n place = MatchResult place (λ i. i < n) (λ i. i ≤ n)

-- how many binary digits the number has, 0 none
abbrev pub binary_digits : ℕ → ℕ
binary_digits n = length (digits_of 2 n)

-- ---- examples

five : binary_digits 5 ≡ 3
five = refl
