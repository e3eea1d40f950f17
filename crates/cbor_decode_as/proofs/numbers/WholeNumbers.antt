-- Whole numbers that binary64 holds: those with at most 53 digits up to the last that is set.
use Rattle.std.proofs.Common.{◌≡◌, ◌∙◌, sym, ap, subst, refl, arith, lit≤}
use Rattle.std.specs.Prelude.{ℕ, zero, suc, ◌+◌, ◌-◌, ◌*◌, ◌/◌, ◌%◌, ◌^◌, ◌<◌}
use Rattle.std.specs.Prelude.{Bool, true, false, cond, ◌&&◌, T, ℤ, pos, eqb, ltb, leb}
use borrow.Author.Tests.{le-leb}
use lib.Count.{count_trailing_zeros, under}
use lib.Dec.{ltb→lt, lt→ltb, le→leb}
use lib.Ieee.{Float, nan, inf, fin, binary64, prec, hid, top, up, down, minus}
use lib.Ieee.{size, odd, round, neg, fits, of_bits, to_bits}
use lib.Ieee.Bits.{of_bits-to_bits}
use lib.Ieee.Digits.{Equals, odd_val}
use lib.Ieee.Exact.{HasValue, odd_sign, round_exact}
use lib.Ieee.Fits.{down_pos, round-fits, and_i, and_l, and_r, eq→eqb}
use lib.Pow.{pow-add, pow_pos}
use native.Mathlib.Nat.{mul-one, mul_assoc, mul_right_comm, mul-div_cancel, zero-lt-suc}
use native.Mathlib.Nat.{mul-lt-mul_of_pos_right, lt_of_lt_of_le, pow-suc, pow-succ', div-div-eq-div-mul}

-- ---- the bits of a number tell it

abbrev bits_at : Bool → ℕ → ℕ
bits_at s a =
    let dropped = size a - prec binary64 in
    cond s (top binary64) 0 + dropped * hid binary64 + a / 2 ^ dropped

bits_of : (x : Float) (s : Bool) (n : ℕ) → HasValue x s n 1
    → to_bits binary64 x ≡ bits_at s (n * 2 ^ 1074)
unfolding to_bits
bits_of nan s n v = absurd v
bits_of (inf t) s n v = absurd v
bits_of (fin t m e) s n v =
    let whole : m * up e * 2 ^ 1074 / down e ≡ n * 2 ^ 1074 =
    ap (λ (z : ℕ). z * 2 ^ 1074 / down e) (sym (mul-one (m * up e)) ∙ v.1)
    ∙ ap (λ (z : ℕ). z / down e) (mul_right_comm n (down e) (2 ^ 1074))
    ∙ mul-div_cancel (n * 2 ^ 1074) (down_pos e) in
    ap (λ (z : ℕ). bits_at t z) whole ∙ ap (λ (b : Bool). bits_at b (n * 2 ^ 1074)) v.0

same_value : (x y : Float) (s : Bool) (n : ℕ) → T (fits binary64 x) → T (fits binary64 y)
    → HasValue x s n 1 → HasValue y s n 1 → x ≡ y
same_value x y s n p q v w =
    sym (of_bits-to_bits binary64 x p)
    ∙ ap (of_bits binary64) (bits_of x s n v ∙ sym (bits_of y s n w))
    ∙ of_bits-to_bits binary64 y q

-- ---- a number's zeros, below its lowest digit that is set

zeros_step : (d n r : ℕ) → n % 2 ≡ r
    → (r ≡ 0 → count_trailing_zeros (suc d) (n / 2) ≡ count_trailing_zeros d (n / 2))
    → under r (count_trailing_zeros (suc d) (n / 2)) ≡ under r (count_trailing_zeros d (n / 2))
zeros_step d n zero is rest = ap suc (rest refl)
zeros_step d n (suc r) is rest = refl

-- of a further digit there are no more
pub same_zeros : (d n : ℕ) → 0 < n → n < 2 ^ d
    → count_trailing_zeros (suc d) n ≡ count_trailing_zeros d n
unfolding count_trailing_zeros
same_zeros zero n some few = absurd (omega (arith, some, few))
same_zeros (suc d) n some few =
    zeros_step d n (n % 2) refl
    (λ is. same_zeros d (n / 2) (omega (arith, some, is)) (omega (arith, few, pow-suc 2 d)))

odd_step : (d n r : ℕ) → n % 2 ≡ r
    → (r ≡ 0 → n / 2 / 2 ^ count_trailing_zeros d (n / 2) % 2 ≡ 1)
    → n / 2 ^ under r (count_trailing_zeros d (n / 2)) % 2 ≡ 1
odd_step d n zero is rest =
    let t = count_trailing_zeros d (n / 2) in
    ap (λ (z : ℕ). z % 2) (ap (λ (z : ℕ). n / z) (pow-succ' 2 t) ∙ sym (div-div-eq-div-mul n 2 (2 ^ t)))
    ∙ rest refl
odd_step d n (suc r) is rest = omega (arith, is)

-- the digits above them are odd
odd_digits : (d n : ℕ) → 0 < n → n < 2 ^ d → n / 2 ^ count_trailing_zeros d n % 2 ≡ 1
unfolding count_trailing_zeros
odd_digits zero n some few = absurd (omega (arith, some, few))
odd_digits (suc d) n some few =
    odd_step d n (n % 2) refl
    (λ is. odd_digits d (n / 2) (omega (arith, some, is)) (omega (arith, few, pow-suc 2 d)))

-- ---- the digits above them

abbrev zeros : ℕ → ℕ
zeros n = count_trailing_zeros 65 n

minus_none : (t : ℕ) → minus (0 + t) 0 ≡ pos t
minus_none t =
    let same : 0 + t - 0 ≡ t = omega arith in
    rw (le-leb 0 (0 + t) (omega arith), same) refl

is_odd : (s : Bool) (q : ℕ)
    → odd 65 s (suc q) 0 0 ≡ fin s (suc q / 2 ^ zeros (suc q)) (pos (zeros (suc q)))
unfolding odd
is_odd s q = ap (fin s (suc q / 2 ^ zeros (suc q))) (minus_none (zeros (suc q)))

few_digits : (s : Bool) (m : ℕ) (e : ℤ) → T (fits binary64 (fin s m e)) → m < 2 ^ 53
unfolding fits
few_digits s zero e held = pow_pos 53
few_digits s (suc m) e held =
    let odds = eqb (suc m % 2) 1 in
    let few = ltb (suc m) (2 ^ 53) in
    let low = leb (down e) (2 ^ 1074) in
    let high = ltb (suc m * up e) (2 ^ 1024 * down e) in
    ltb→lt (suc m) (2 ^ 53) (and_r odds few (and_l (odds && few) low (and_l (odds && few && low) high held)))

pub digits_of : (s : Bool) (n : ℕ) → 0 < n → T (fits binary64 (odd 65 s n 0 0))
    → n / 2 ^ zeros n < 2 ^ 53
digits_of s zero some held = absurd (omega (arith, some))
digits_of s (suc q) some held =
    few_digits s (suc q / 2 ^ zeros (suc q)) (pos (zeros (suc q)))
    (subst (λ (x : Float). T (fits binary64 x)) (is_odd s q) held)

fits_by : (s : Bool) (m t : ℕ) → m % 2 ≡ 1 → m < 2 ^ 53 → m * 2 ^ t < 2 ^ 1024 * 1
    → T (fits binary64 (fin s m (pos t)))
unfolding fits
fits_by s zero t odds few high = absurd (omega (arith, odds))
fits_by s (suc m) t odds few high =
    let a = eqb (suc m % 2) 1 in
    let b = ltb (suc m) (2 ^ 53) in
    let c = leb 1 (2 ^ 1074) in
    and_i (a && b && c) (ltb (suc m * 2 ^ t) (2 ^ 1024 * 1))
    (and_i (a && b) c (and_i a b (eq→eqb odds) (lt→ltb (suc m) (2 ^ 53) few)) (le→leb 1 (2 ^ 1074) (pow_pos 1074)))
    (lt→ltb (suc m * 2 ^ t) (2 ^ 1024 * 1) high)

all_digits : (s : Bool) (n : ℕ) → 0 < n → n / 2 ^ zeros n * 2 ^ zeros n ≡ n
all_digits s zero some = absurd (omega (arith, some))
all_digits s (suc q) some =
    let m = suc q / 2 ^ zeros (suc q) in
    sym (mul-one (m * 2 ^ zeros (suc q)))
    ∙ subst (λ (x : Float). Equals x (suc q * 1) 1) (is_odd s q) (odd_val 65 s (suc q) 0 0)
    ∙ mul-one (suc q * 1) ∙ mul-one (suc q)

pub held_by : (s : Bool) (n : ℕ) → 0 < n → n < 2 ^ 65 → n / 2 ^ zeros n < 2 ^ 53
    → T (fits binary64 (odd 65 s n 0 0))
held_by s zero some small few = absurd (omega (arith, some))
held_by s (suc q) some small few =
    let t = zeros (suc q) in
    let m = suc q / 2 ^ t in
    subst (λ (x : Float). T (fits binary64 x)) (sym (is_odd s q))
    (fits_by s m t (odd_digits 65 (suc q) some small) few
    (subst (λ (z : ℕ). z < 2 ^ 1024 * 1) (sym (all_digits s (suc q) some)) (lt_of_lt_of_le small (lit≤ tt))))

-- ---- the nearest number

rounded : (s : Bool) (n : ℕ) → 0 < n → n < 2 ^ 65 → n / 2 ^ zeros n < 2 ^ 53
    → HasValue (round binary64 s n 1) s n 1
rounded s n some small few =
    let t = zeros n in
    let m = n / 2 ^ t in
    let same : m * 2 ^ (t + 1074) ≡ n * 2 ^ 1074 =
    ap (λ (z : ℕ). m * z) (pow-add 2 t 1074) ∙ sym (mul_assoc m (2 ^ t) (2 ^ 1074))
    ∙ ap (λ (z : ℕ). z * 2 ^ 1074) (all_digits s n some) in
    let below : n * 2 ^ 1074 < 2 ^ 65 * 2 ^ 1074 = mul-lt-mul_of_pos_right small (pow_pos 1074) in
    round_exact binary64 s n 1 m (t + 1074) (zero-lt-suc 0) few
    (subst (λ (z : ℕ). z < 2 ^ 2098) (sym same) (lt_of_lt_of_le below (lit≤ tt)))
    (sym same ∙ sym (mul-one (m * 2 ^ (t + 1074))))

valued : (s : Bool) (n : ℕ) → HasValue (odd 65 s n 0 0) s n 1
valued s n = subst (λ (z : ℕ). HasValue (odd 65 s n 0 0) s z 1) (mul-one n) (odd_sign 65 s n 0 0)

pub exact : (s : Bool) (n : ℕ) → 0 < n → n < 2 ^ 65 → n / 2 ^ zeros n < 2 ^ 53
    → round binary64 s n 1 ≡ odd 65 s n 0 0
exact s n some small few =
    same_value (round binary64 s n 1) (odd 65 s n 0 0) s n (round-fits binary64 s n 1)
    (held_by s n some small few) (rounded s n some small few) (valued s n)

sign_alone : (m : ℕ) (e : ℤ) → fits binary64 (fin true m e) ≡ fits binary64 (fin false m e)
unfolding fits
sign_alone zero e = refl
sign_alone (suc m) e = refl

-- either sign is held with the other
pub either_sign : (n : ℕ) → T (fits binary64 (odd 65 true n 0 0)) → T (fits binary64 (odd 65 false n 0 0))
unfolding odd
either_sign zero held = unfold fits in tt
either_sign (suc q) held =
    let m = suc q / 2 ^ zeros (suc q) in
    subst T (sign_alone m (minus (0 + zeros (suc q)) 0)) held

pub negated : (n : ℕ) → neg (odd 65 false n 0 0) ≡ odd 65 true n 0 0
unfolding neg odd
negated zero = refl
negated (suc q) = refl
