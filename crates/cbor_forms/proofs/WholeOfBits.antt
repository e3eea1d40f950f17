-- The whole number of a binary64's bits is that of its number.
use Rattle.std.proofs.Common.{◌≡◌, ◌∙◌, inl, inr, sym, ap, subst, refl, arith, lit≤}
use Rattle.std.proofs.lemmas.Bool.{eqb-true}
use Rattle.std.proofs.lemmas.Bool.{cond_both, cond-false, cases_eq, cases_lt, and_parts}
use Rattle.std.proofs.lemmas.Bool.{ne_eqb, lt-leb, le-leb, eq-eqb, le-ltb}
use Rattle.std.specs.Prelude.{ℕ, zero, suc, ◌+◌, ◌-◌, ◌*◌, ◌/◌, ◌%◌, ◌^◌, ◌<◌, ◌≤◌, Bool, true}
use Rattle.std.specs.Prelude.{false}
use Rattle.std.specs.Prelude.{eqb, leb, T, ℤ, pos, negsuc, Option, Some, None}
use lib.Ieee.{Float, nan, inf, fin, binary64, up, down, fits, odd, of_fields, of_bits}
use lib.Ieee.Bits.{of_bits-fits, is_true}
use lib.Ieee.Exact.{HasValue, odd_sign}
use lib.Ieee.Fits.{down_pos}
use lib.Pow.{pow-add, pow_pos, pow_mono, field}
use native.Mathlib.Nat.{mul_assoc, mul_right_comm, mul-one, mul-mod_left}
use native.Mathlib.Nat.{eq_of_mul-eq-mul_right, mul-le-mul_left, mul-le-mul_right}
use native.Mathlib.Nat.{pow-succ', div-add-mod'}
use Rattle.cbor_forms.specs.Reduced.{signed, integer_of}
use Rattle.cbor_forms.specs.WholeOfBits.{whole_by, whole_of, with_sign}

-- ---- whole numbers

-- the number is n, with this sign
abbrev IsWhole : Float → Bool → ℕ → Type 0
IsWhole x s n = HasValue x s n 1

odd_twice : (m n : ℕ) → m % 2 ≡ 1 → m ≡ 2 * n → ⊥
odd_twice m n is even = omega arith

at_one : (p : ℕ) → 0 < p → 1 * (2 * p) ≡ 1 → ⊥
at_one p some is = omega arith

-- what a format holds has an odd m, or 0 with 0
odd_of : (s : Bool) (m : ℕ) (e : ℤ) → T (fits binary64 (fin s (suc m) e)) → suc m % 2 ≡ 1
unfolding fits
odd_of s m e held =
    let all = and_parts _ _ (is_true _ held) in
    eqb-true (suc m % 2) 1 (and_parts _ _ (and_parts _ _ all.0).0).0

pub no_fraction : (s : Bool) (m k n : ℕ) → T (fits binary64 (fin s m (negsuc k)))
    → m * 1 * 1 ≡ n * 2 ^ suc k → ⊥
unfolding fits
no_fraction s zero k n held is =
    at_one (2 ^ k) (pow_pos k)
    (ap (λ (z : ℕ). 1 * z) (sym (pow-succ' 2 k)) ∙ eqb-true (1 * 2 ^ suc k) 1 (is_true _ held))
no_fraction s (suc m) k n held is =
    let half : n * (2 * 2 ^ k) ≡ 2 * (n * 2 ^ k) = grind arith in
    odd_twice (suc m) (n * 2 ^ k) (odd_of s m (negsuc k) held)
    (sym (mul-one (suc m)) ∙ sym (mul-one (suc m * 1)) ∙ is
    ∙ ap (λ (z : ℕ). n * z) (pow-succ' 2 k) ∙ half)

pub integer_from : (x : Float) (s : Bool) (n : ℕ) → T (fits binary64 x) → IsWhole x s n
    → integer_of x ≡ signed s n
integer_from nan s n held is = absurd is
integer_from (inf t) s n held is = absurd is
integer_from (fin t m (pos e)) s n held is =
    ap (λ (b : Bool). signed b (m * 2 ^ e)) is.0
    ∙ ap (signed s) (sym (mul-one (m * 2 ^ e)) ∙ is.1 ∙ mul-one n)
integer_from (fin t m (negsuc k)) s n held is = absurd (no_fraction t m k n held is.1)

none_past : (s : Bool) (n : ℕ) → (n < 2 ^ 64 → ⊥) → signed s n ≡ None
none_past false n not = cond-false _ _ _ (le-ltb n (2 ^ 64) (omega arith))
none_past true n not = cond-false _ _ _ (lt-leb n (2 ^ 63) (omega arith))

no_integer : (x : Float) → ((s : Bool) (n : ℕ) → n < 2 ^ 64 → IsWhole x s n → ⊥)
    → integer_of x ≡ None
no_integer nan none = refl
no_integer (inf t) none = refl
no_integer (fin t m (pos e)) none =
    none_past t (m * 2 ^ e) (λ small. none t (m * 2 ^ e) small (refl, refl))
no_integer (fin t m (negsuc k)) none = refl

-- ---- in units of 1 / p

whole_in : (x : Float) (s t : Bool) (a n p : ℕ) → HasValue x s a p → IsWhole x t n → a ≡ n * p
whole_in nan s t a n p v w = absurd v
whole_in (inf u) s t a n p v w = absurd v
whole_in (fin u m e) s t a n p v w =
    eq_of_mul-eq-mul_right (down e) (down_pos e) a (n * p)
    (sym v.1 ∙ ap (λ (z : ℕ). z * p) (sym (mul-one (m * up e)) ∙ w.1) ∙ mul_right_comm n (down e) p)

whole_from : (x : Float) (s : Bool) (a n p : ℕ) → 0 < p → HasValue x s a p → a ≡ n * p
    → IsWhole x s n
whole_from nan s a n p some v is = absurd v
whole_from (inf u) s a n p some v is = absurd v
whole_from (fin u m e) s a n p some v is = (
  v.0,
  mul-one (m * up e)
      ∙ eq_of_mul-eq-mul_right p some (m * up e) (n * down e)
      (v.1 ∙ ap (λ (z : ℕ). z * down e) is ∙ mul_right_comm n p (down e)),
)

-- ---- the digits q, times 2^j / 2^1074

to_the_left : (q k j : ℕ) → k + 1074 ≡ j → q * 2 ^ j ≡ q * 2 ^ k * 2 ^ 1074
to_the_left q k j sum =
    ap (λ (z : ℕ). q * 2 ^ z) (sym sum)
    ∙ ap (λ (z : ℕ). q * z) (pow-add 2 k 1074)
    ∙ sym (mul_assoc q (2 ^ k) (2 ^ 1074))

to_the_right : (n r j : ℕ) → r + j ≡ 1074 → n * 2 ^ r * 2 ^ j ≡ n * 2 ^ 1074
to_the_right n r j sum =
    mul_assoc n (2 ^ r) (2 ^ j)
    ∙ ap (λ (z : ℕ). n * z) (sym (pow-add 2 r j) ∙ ap (λ (z : ℕ). 2 ^ z) sum)

-- a whole number has no digits past the point
digits_of : (q n r j : ℕ) → r + j ≡ 1074 → q * 2 ^ j ≡ n * 2 ^ 1074 → q ≡ n * 2 ^ r
digits_of q n r j sum is =
    eq_of_mul-eq-mul_right (2 ^ j) (pow_pos j) q (n * 2 ^ r) (is ∙ sym (to_the_right n r j sum))

-- q below 2^53 and above 0 is no whole number of 2^53
too_low : (q n r j : ℕ) → 0 < q → q < 2 ^ 53 → 53 ≤ r → r + j ≡ 1074
    → q * 2 ^ j ≡ n * 2 ^ 1074 → ⊥
too_low q zero r j some few wide sum is =
    let none = digits_of q zero r j sum is in omega (arith, none)
too_low q (suc n) r j some few wide sum is =
    let all = digits_of q (suc n) r j sum is in
    let most : 2 ^ 53 ≤ 2 ^ r = pow_mono wide in
    let one : 1 * 2 ^ r ≤ suc n * 2 ^ r = mul-le-mul_right (2 ^ r) (omega arith) in
    omega (arith, all, most, one)

-- q from 2^52 on is too much where 12 digits are put to it
too_high : (q n k : ℕ) → 2 ^ 52 ≤ q → 12 ≤ k → q * 2 ^ k ≡ n → n < 2 ^ 64 → ⊥
too_high q n k many wide is small =
    let most : 2 ^ 12 ≤ 2 ^ k = pow_mono wide in
    let one : 2 ^ 52 * 2 ^ k ≤ q * 2 ^ k = mul-le-mul_right (2 ^ k) many in
    omega (arith, is, most, one, small)

-- ---- what is found

find_zero : whole_by 0 0 ≡ Some 0
find_zero = refl

find_least : (t : ℕ) → 0 < t → whole_by 0 t ≡ None
find_least t some = rw (ne_eqb t 0 (omega arith)) refl

find_below : (x t : ℕ) → 0 < x → x < 1023 → whole_by x t ≡ None
find_below x t some low =
    rw (ne_eqb x 0 (omega arith), lt-leb 1023 x (omega arith), lt-leb 1075 x (omega arith)) refl

find_right : (x t : ℕ) → 1023 ≤ x → x ≤ 1074 → (2 ^ 52 + t) % 2 ^ (1075 - x) ≡ 0
    → whole_by x t ≡ Some ((2 ^ 52 + t) / 2 ^ (1075 - x))
find_right x t low high whole =
    rw (
      ne_eqb x 0 (omega arith),
      le-leb 1023 x low,
      le-leb x 1074 high,
      eq-eqb ((2 ^ 52 + t) % 2 ^ (1075 - x)) 0 whole,
    ) refl

find_fraction : (x t : ℕ) → 1023 ≤ x → x ≤ 1074
    → ((2 ^ 52 + t) % 2 ^ (1075 - x) ≡ 0 → ⊥) → whole_by x t ≡ None
find_fraction x t low high some =
    rw (
      ne_eqb x 0 (omega arith),
      le-leb 1023 x low,
      le-leb x 1074 high,
      ne_eqb ((2 ^ 52 + t) % 2 ^ (1075 - x)) 0 some,
      lt-leb 1075 x (omega arith),
    ) refl

find_left : (x t : ℕ) → 1075 ≤ x → x ≤ 1086
    → whole_by x t ≡ Some ((2 ^ 52 + t) * 2 ^ (x - 1075))
find_left x t low high =
    rw (
      ne_eqb x 0 (omega arith),
      le-leb 1023 x (omega arith),
      lt-leb x 1074 (omega arith),
      le-leb 1075 x low,
      le-leb x 1086 high,
    ) refl

find_above : (x t : ℕ) → 1086 < x → whole_by x t ≡ None
find_above x t high =
    rw (
      ne_eqb x 0 (omega arith),
      le-leb 1023 x (omega arith),
      lt-leb x 1074 (omega arith),
      le-leb 1075 x (omega arith),
      lt-leb x 1086 (omega arith),
    ) refl

-- ---- by the fields

abbrev Answers : Float → Bool → Option ℕ → Type 0
Answers x s n = integer_of x ≡ with_sign s n

found : (x : Float) (s : Bool) (n : ℕ) (r : Option ℕ) → T (fits binary64 x) → IsWhole x s n
    → r ≡ Some n → Answers x s r
found x s n r held is some = integer_from x s n held is ∙ ap (with_sign s) (sym some)

missing : (x : Float) (s : Bool) (r : Option ℕ)
    → ((t : Bool) (n : ℕ) → n < 2 ^ 64 → IsWhole x t n → ⊥) → r ≡ None → Answers x s r
missing x s r none is = no_integer x none ∙ ap (with_sign s) (sym is)

zero_fields : (s : Bool) → Answers (of_fields binary64 s 0 0) s (whole_by 0 0)
unfolding of_fields odd
zero_fields s = refl

least_fields : (s : Bool) (t : ℕ) → 0 < t → t < 2 ^ 52
    → Answers (of_fields binary64 s 0 t) s (whole_by 0 t)
unfolding of_fields
least_fields s t some few =
    let x = odd 53 s t 0 1074 in
    missing x s (whole_by 0 t)
    (λ u n small is.
    too_low t n 1074 0 some (omega (arith, few)) (lit≤ tt) refl
    (whole_in x s u (t * 2 ^ 0) n (2 ^ 1074) (odd_sign 53 s t 0 1074) is))
    (find_least t some)

last_fields : (s : Bool) (t : ℕ) → Answers (of_fields binary64 s 2047 t) s (whole_by 2047 t)
unfolding of_fields
last_fields s t =
    cond_both (eqb t 0) (inf s) nan (λ x. Answers x s (whole_by 2047 t)) (λ e. refl) (λ e. refl)

module _ (s : Bool) (j t : ℕ) (few : t < 2 ^ 52)
    (held : T (fits binary64 (odd 53 s (2 ^ 52 + t) j 1074))) where
  value : HasValue (odd 53 s (2 ^ 52 + t) j 1074) s ((2 ^ 52 + t) * 2 ^ j) (2 ^ 1074)
  value = odd_sign 53 s (2 ^ 52 + t) j 1074

  below_one : suc j < 1023 → Answers (odd 53 s (2 ^ 52 + t) j 1074) s (whole_by (suc j) t)
  below_one low =
      missing (odd 53 s (2 ^ 52 + t) j 1074) s (whole_by (suc j) t)
      (λ u n small is.
      too_low (2 ^ 52 + t) n (1074 - j) j (omega arith) (omega (arith, few)) (omega (arith, low))
      (omega (arith, low))
      (whole_in (odd 53 s (2 ^ 52 + t) j 1074) s u ((2 ^ 52 + t) * 2 ^ j) n (2 ^ 1074) value is))
      (find_below (suc j) t (omega arith) low)

  to_right : 1023 ≤ suc j → suc j ≤ 1074
      → Answers (odd 53 s (2 ^ 52 + t) j 1074) s (whole_by (suc j) t)
  to_right low high =
      let r = 1075 - suc j in
      let sum : r + j ≡ 1074 = omega (arith, high) in
      elim (cases_eq ((2 ^ 52 + t) % 2 ^ r) 0) [
        | inl whole ↦
            let n = (2 ^ 52 + t) / 2 ^ r in
            let exact : 2 ^ 52 + t ≡ n * 2 ^ r =
            sym (div-add-mod' (2 ^ 52 + t) (2 ^ r)) ∙ ap (λ (z : ℕ). n * 2 ^ r + z) whole
            ∙ add_none (n * 2 ^ r) in
            found (odd 53 s (2 ^ 52 + t) j 1074) s n (whole_by (suc j) t) held
            (whole_from (odd 53 s (2 ^ 52 + t) j 1074) s ((2 ^ 52 + t) * 2 ^ j) n (2 ^ 1074)
            (pow_pos 1074) value
            (ap (λ (z : ℕ). z * 2 ^ j) exact ∙ to_the_right n r j sum))
            (find_right (suc j) t low high whole)
        | inr some ↦
            missing (odd 53 s (2 ^ 52 + t) j 1074) s (whole_by (suc j) t)
            (λ u n small is.
            some (ap (λ (z : ℕ). z % 2 ^ r)
            (digits_of (2 ^ 52 + t) n r j sum
            (whole_in (odd 53 s (2 ^ 52 + t) j 1074) s u ((2 ^ 52 + t) * 2 ^ j) n (2 ^ 1074) value
            is))
            ∙ mul-mod_left n (2 ^ r)))
            (find_fraction (suc j) t low high some)
      ]
    where
      add_none : (n : ℕ) → n + 0 ≡ n
      add_none n = omega arith

  to_left : 1075 ≤ suc j → suc j ≤ 1086
      → Answers (odd 53 s (2 ^ 52 + t) j 1074) s (whole_by (suc j) t)
  to_left low high =
      let k = suc j - 1075 in
      found (odd 53 s (2 ^ 52 + t) j 1074) s ((2 ^ 52 + t) * 2 ^ k) (whole_by (suc j) t) held
      (whole_from (odd 53 s (2 ^ 52 + t) j 1074) s ((2 ^ 52 + t) * 2 ^ j) ((2 ^ 52 + t) * 2 ^ k)
      (2 ^ 1074) (pow_pos 1074) value
      (to_the_left (2 ^ 52 + t) k j (omega (arith, low))))
      (find_left (suc j) t low high)

  too_far : 1086 < suc j → Answers (odd 53 s (2 ^ 52 + t) j 1074) s (whole_by (suc j) t)
  too_far high =
      let k = j - 1074 in
      missing (odd 53 s (2 ^ 52 + t) j 1074) s (whole_by (suc j) t)
      (λ u n small is.
      too_high (2 ^ 52 + t) n k (omega arith) (omega (arith, high))
      (eq_of_mul-eq-mul_right (2 ^ 1074) (pow_pos 1074) ((2 ^ 52 + t) * 2 ^ k) n
      (sym (to_the_left (2 ^ 52 + t) k j (omega (arith, high)))
      ∙ whole_in (odd 53 s (2 ^ 52 + t) j 1074) s u ((2 ^ 52 + t) * 2 ^ j) n (2 ^ 1074) value is))
      small)
      (find_above (suc j) t high)

  each_exponent : Answers (odd 53 s (2 ^ 52 + t) j 1074) s (whole_by (suc j) t)
  each_exponent = elim (cases_lt (suc j) 1023) [
    | inl low ↦ below_one low
    | inr above ↦ elim (cases_lt 1074 (suc j)) [
      | inl over ↦ elim (cases_lt 1086 (suc j)) [
        | inl high ↦ too_far high
        | inr within ↦ to_left over within
      ]
      | inr within ↦ to_right above within
    ]
  ]

fields : (s : Bool) (x t : ℕ) → x < 2048 → t < 2 ^ 52
    → T (fits binary64 (of_fields binary64 s x t))
    → Answers (of_fields binary64 s x t) s (whole_by x t)
unfolding of_fields
fields s zero t most few held = elim (cases_eq t 0) [
  | inl none ↦
      subst (λ (z : ℕ). Answers (of_fields binary64 s 0 z) s (whole_by 0 z)) (sym none)
      (zero_fields s)
  | inr some ↦ least_fields s t (omega arith) few
]
fields s (suc j) t most few held = elim (cases_eq (suc j) 2047) [
  | inl last ↦
      subst (λ (z : ℕ). Answers (of_fields binary64 s z t) s (whole_by z t)) (sym last)
      (last_fields s t)
  | inr other ↦
      let is : of_fields binary64 s (suc j) t ≡ odd 53 s (2 ^ 52 + t) j 1074 =
      cond-false (eqb (suc j) 2047) _ _ (ne_eqb (suc j) 2047 other) in
      subst (λ (z : Float). Answers z s (whole_by (suc j) t)) (sym is)
      (each_exponent s j t few (subst (λ (z : Float). T (fits binary64 z)) is held))
]

-- the integer of a binary64 by its bits
pub whole_is : (b : ℕ) → integer_of (of_bits binary64 b) ≡ with_sign (leb (2 ^ 63) b) (whole_of b)
unfolding of_bits
whole_is b =
    let e : b % 2 ^ 63 / 2 ^ 52 ≡ b / 2 ^ 52 % 2 ^ 11 = field b 11 52 in
    ap (λ (z : ℕ). integer_of (of_fields binary64 (leb (2 ^ 63) b) z (b % 2 ^ 52))) e
    ∙ fields (leb (2 ^ 63) b) (b / 2 ^ 52 % 2 ^ 11) (b % 2 ^ 52) (omega arith) (omega arith)
    (subst (λ (z : ℕ). T (fits binary64 (of_fields binary64 (leb (2 ^ 63) b) z (b % 2 ^ 52)))) e
    (of_bits-fits binary64 b))

-- ---- in a word

pub left_fits : (q k : ℕ) → q < 2 ^ 53 → k ≤ 11 → q * (1 * 2 ^ k % 2 ^ 64) < 2 ^ 64
left_fits q k few low =
    let most : 2 ^ k ≤ 2 ^ 11 = pow_mono low in
    let small : 1 * 2 ^ k % 2 ^ 64 ≤ 2 ^ 11 = omega (arith, most) in
    let all : q * (1 * 2 ^ k % 2 ^ 64) ≤ q * 2 ^ 11 = mul-le-mul_left q small in
    omega (arith, all, few)
