-- A slice that is read from a place again.
use Rattle.std.proofs.Common.{◌≡◌, ◌≤◌, ◌<◌, ℕ, List, length, take, drop, Some, None, ap, subst, arith}
use Rattle.cbor_read.specs.Source.{TookKept, start_of_slice}
use Rattle.cbor_read.specs.Sources.{input_of_slice}
use Rattle.cbor_read.specs.declared.slice_read.SliceRead.{SliceRead}
use Rattle.cbor_serde_de.specs.Places.{IsAt}

some_injective : (xs ys : List ℕ) → Some xs ≡ Some ys → xs ≡ ys
some_injective xs ys e = cc

at_hand : (s : SliceRead) (slice : List ℕ) → input_of_slice s ≡ start_of_slice slice None → drop s.taken s.slice.now ≡ slice
at_hand s slice e = some_injective (drop s.taken s.slice.now) slice (ap (λ i. i.to_come) e)

-- what is taken of the slice's beginning
pub rewound : (s t : SliceRead) (slice : List ℕ) (n : ℕ) → input_of_slice s ≡ start_of_slice slice None
    → TookKept (input_of_slice s) (input_of_slice t) (take n (drop s.taken s.slice.now)) → IsAt slice n (input_of_slice t)
rewound s t slice n e h =
    subst (λ xs. TookKept (start_of_slice slice None) (input_of_slice t) (take n xs)) (at_hand s slice e)
    (subst (λ i. TookKept i (input_of_slice t) (take n (drop s.taken s.slice.now))) e h)

-- a place behind its end is none of it
pub none_behind : (s : SliceRead) (slice ahead : List ℕ) (n : ℕ) → input_of_slice s ≡ start_of_slice slice None
    → ahead ≡ drop s.taken s.slice.now → length ahead < n → n ≤ length slice → ⊥
none_behind s slice ahead n e is short within =
    omega (arith, ap length is, ap length (at_hand s slice e), short, within)
