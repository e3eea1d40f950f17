-- Floats of 16 bits, whose number is a product by a power of two, and the numbers that floats of 32
-- bits hold. A number that a format holds is written there in one way.
use Rattle.std.proofs.Common.{◌≡◌, ◌∙◌, sym, ap, subst, refl, inl, inr, arith, lit<}
use Rattle.std.proofs.lemmas.Float.{T_from_true}
use Rattle.std.specs.Float.{round_to_format}
use Rattle.std.specs.Prelude.{ℕ, zero, suc, ◌+◌, ◌-◌, ◌*◌, ◌/◌, ◌%◌, ◌^◌, ◌<◌, ◌≤◌}
use Rattle.std.specs.Prelude.{Bool, true, false, cond, ◌&&◌, T, ℤ, pos, negsuc, eqb, ltb, leb}
use borrow.Author.Tests.{le-leb, lt-leb, ne_eqb}
use lib.Count.{count_trailing_zeros}
use lib.Dec.{ltb→lt, leb→le}
use lib.Ieee.{Float, nan, inf, fin, binary32, binary64, prec, hid, top, up, down, minus}
use lib.Ieee.{size, odd, round, mul, neg, fits, of_int, of_bits, to_bits, of_fields}
use lib.Ieee.Back.{round_whole}
use lib.Ieee.Bits.{of_bits-to_bits}
use lib.Ieee.Exact.{HasValue, odd_sign, round_exact}
use lib.Ieee.Fits.{down_pos, odd-fits, round-fits, and_l, and_r}
use lib.Ieee.Scale.{round_same}
use lib.Pow.{pow-add, pow_pos, pow_mono, pow-lt, shl_lt}
use mathlib.Core.Bool.{true≢false}
use native.Mathlib.Nat.{mul-pos, mul-one, one-mul, zero-mul, mul_assoc, mul-mul-mul_comm}
use native.Mathlib.Nat.{mul-lt-mul_of_pos_right, zero-lt-suc, lt_of_lt_of_le, not-le_of_lt}
use native.Mathlib.Nat.{eq-zero-or-pos, mul-div_cancel}
use Rattle.cbor_value.specs.Floats.{half_parts, half_number}

-- ---- the bits of a number tell it

abbrev bits_at : Bool → ℕ → ℕ
bits_at s a =
    let dropped = size a - prec binary32 in
    cond s (top binary32) 0 + dropped * hid binary32 + a / 2 ^ dropped

bits_of : (x : Float) (s : Bool) (a : ℕ) → HasValue x s a (2 ^ 149)
    → to_bits binary32 x ≡ bits_at s a
unfolding to_bits
bits_of nan s a v = elim v [ ]
bits_of (inf t) s a v = elim v [ ]
bits_of (fin t m e) s a v =
    let whole : m * up e * 2 ^ 149 / down e ≡ a =
    ap (λ (z : ℕ). z / down e) v.1 ∙ mul-div_cancel a (down_pos e) in
    ap (λ (z : ℕ). bits_at t z) whole ∙ ap (λ (b : Bool). bits_at b a) v.0

same_value : (x y : Float) (s : Bool) (a : ℕ) → T (fits binary32 x) → T (fits binary32 y)
    → HasValue x s a (2 ^ 149) → HasValue y s a (2 ^ 149) → x ≡ y
same_value x y s a p q v w =
    sym (of_bits-to_bits binary32 x p)
    ∙ ap (of_bits binary32) (bits_of x s a v ∙ sym (bits_of y s a w))
    ∙ of_bits-to_bits binary32 y q

-- ---- the exponent, from another number of binary places

minus_shift : (a b n : ℕ) → minus (a + n) (b + n) ≡ minus a b
minus_shift a b n = elim (eq-zero-or-pos (b - a)) [
  | inl z ↦
      let l : b ≤ a = omega arith in
      let h : b + n ≤ a + n = omega arith in
      let e : a + n - (b + n) ≡ a - b = omega arith in
      rw (le-leb b a l, le-leb (b + n) (a + n) h, e) refl
  | inr p ↦
      let l : a < b = omega arith in
      let h : a + n < b + n = omega arith in
      let e : b + n - suc (a + n) ≡ b - suc a = omega arith in
      rw (lt-leb b a l, lt-leb (b + n) (a + n) h, e) refl
]

odd_shift : (d : ℕ) (s : Bool) (q k l n : ℕ) → odd d s q (k + n) (l + n) ≡ odd d s q k l
unfolding odd
odd_shift d s zero k l n = refl
odd_shift d s (suc q) k l n =
    let t = count_trailing_zeros d (suc q) in
    let m = suc q / 2 ^ t in
    let e : k + n + t ≡ k + t + n = omega arith in
    ap (λ (z : ℕ). fin s m (minus z (l + n))) e ∙ ap (fin s m) (minus_shift (k + t) l n)

-- q * 2^j / 2^24 is also p * 2^k / 2^149
pub same_odd : (s : Bool) (q j p i k : ℕ) → q < 2 ^ 11 → p < 2 ^ 24 → j < 31 → p ≡ q * 2 ^ i
    → i + k ≡ j + 125 → odd 11 s q j 24 ≡ odd 24 s p k 149
same_odd s q j p i k few more low is sum =
    let a = q * 2 ^ (j + 125) in
    let scaled : p * 2 ^ k ≡ a =
    ap (λ (z : ℕ). z * 2 ^ k) is ∙ mul_assoc q (2 ^ i) (2 ^ k)
    ∙ ap (λ (z : ℕ). q * z) (sym (pow-add 2 i k) ∙ ap (λ (z : ℕ). 2 ^ z) sum) in
    let most : 11 + (j + 125) ≤ 277 = omega arith in
    let small : a < 2 ^ 277 = lt_of_lt_of_le (shl_lt 11 (j + 125) few) (pow_mono most) in
    let wide : q ≤ 2 ^ 24 = omega arith in
    let full : p ≤ 2 ^ 24 = omega arith in
    sym (odd_shift 11 s q j 24 125)
    ∙ same_value (odd 11 s q (j + 125) 149) (odd 24 s p k 149) s a
    (odd-fits binary32 11 s q (j + 125) few wide small)
    (odd-fits binary32 24 s p k more full (subst (λ (z : ℕ). z < 2 ^ 277) (sym scaled) small))
    (odd_sign 11 s q (j + 125) 149)
    (subst (λ (z : ℕ). HasValue (odd 24 s p k 149) s z (2 ^ 149)) scaled (odd_sign 24 s p k 149))

-- ---- a product of two fractions that aren't negative

mul_values : (x y : Float) (a c b d : ℕ) → 0 < c → 0 < d → HasValue x false a c
    → HasValue y false b d → mul binary32 x y ≡ round binary32 false (a * b) (c * d)
unfolding mul
mul_values nan y a c b d C D h k = elim h [ ]
mul_values (inf s) y a c b d C D h k = elim h [ ]
mul_values (fin s m e) nan a c b d C D h k = elim k [ ]
mul_values (fin s m e) (inf t) a c b d C D h k = elim k [ ]
mul_values (fin true m e) (fin t n f) a c b d C D h k = elim (true≢false h.0) [ ]
mul_values (fin false m e) (fin true n f) a c b d C D h k = elim (true≢false k.0) [ ]
mul_values (fin false m e) (fin false n f) a c b d C D h k =
    round_same binary32 false (m * up e * (n * up f)) (down e * down f) (a * b) (c * d)
    (mul-pos (down_pos e) (down_pos f)) (mul-pos C D)
    (mul-mul-mul_comm (m * up e) (n * up f) c d
    ∙ ap (λ (z : ℕ). z * (n * up f * d)) h.1
    ∙ ap (λ (z : ℕ). a * down e * z) k.1
    ∙ mul-mul-mul_comm a (down e) b (down f))

-- ---- 2 ^ (k - 24), by its bits

unit_is : (k : ℕ) → k < 31
    → of_bits binary32 ((k + 103) * 0x80_0000) ≡ odd 24 false (2 ^ 23) (k + 102) 149
unfolding of_bits of_fields
unit_is k h =
    let b = (k + 103) * 0x80_0000 in
    let x : b % 0x8000_0000 / 0x80_0000 ≡ suc (k + 102) = omega arith in
    let t : b % 0x80_0000 ≡ 0 = omega arith in
    rw (lt-leb 0x8000_0000 b (omega arith), x, t, ne_eqb (suc (k + 102)) 255 (omega arith)) refl

-- ---- the product

pub product : (q k : ℕ) → q < 2048 → k < 31
    → mul binary32 (of_int binary32 (pos q)) (of_bits binary32 ((k + 103) * 0x80_0000))
    ≡ odd 11 false q k 24
product q k Q K =
    let y = odd 24 false (2 ^ 23) (k + 102) 149 in
    let digits : HasValue (of_int binary32 (pos q)) false q 1 =
    unfold of_int in round_whole binary32 false q (omega arith) in
    let unit : HasValue y false (2 ^ 23 * 2 ^ (k + 102)) (2 ^ 149) =
    odd_sign 24 false (2 ^ 23) (k + 102) 149 in
    let sum : 23 + (k + 102) ≡ k + 125 = omega arith in
    let power : 2 ^ 23 * 2 ^ (k + 102) ≡ 2 ^ (k + 125) =
    sym (pow-add 2 23 (k + 102)) ∙ ap (λ (z : ℕ). 2 ^ z) sum in
    let size = q * 2 ^ (k + 125) in
    let most : 11 + (k + 125) ≤ 277 = omega arith in
    let small : size < 2 ^ 277 = lt_of_lt_of_le (shl_lt 11 (k + 125) Q) (pow_mono most) in
    let wide : q < 2 ^ 24 = omega arith in
    let rounded : HasValue (round binary32 false size (2 ^ 149)) false size (2 ^ 149) =
    round_exact binary32 false size (2 ^ 149) q (k + 125) (pow_pos 149) wide small refl in
    let held : T (fits binary32 (odd 11 false q (k + 125) 149)) =
    odd-fits binary32 11 false q (k + 125) Q (omega arith) small in
    ap (λ (z : Float). mul binary32 (of_int binary32 (pos q)) z) (unit_is k K)
    ∙ mul_values (of_int binary32 (pos q)) y q 1 (2 ^ 23 * 2 ^ (k + 102)) (2 ^ 149)
    (zero-lt-suc 0) (pow_pos 149) digits unit
    ∙ round_same binary32 false (q * (2 ^ 23 * 2 ^ (k + 102))) (1 * 2 ^ 149) size (2 ^ 149)
    (mul-pos (zero-lt-suc 0) (pow_pos 149)) (pow_pos 149)
    (ap (λ (z : ℕ). q * z * 2 ^ 149) power
    ∙ ap (λ (z : ℕ). size * z) (sym (one-mul (2 ^ 149))))
    ∙ same_value (round binary32 false size (2 ^ 149)) (odd 11 false q (k + 125) 149)
    false size (round-fits binary32 false size (2 ^ 149)) held rounded
    (odd_sign 11 false q (k + 125) 149)
    ∙ odd_shift 11 false q k 24 125

pub negated : (q k l : ℕ) → neg (odd 11 false q k l) ≡ odd 11 true q k l
unfolding neg odd
negated zero k l = refl
negated (suc q) k l = refl

-- ---- binary16 by its parts

pub parts_low : (s : Bool) (x t : ℕ) → x ≡ 0 → odd 11 s t 0 24 ≡ half_parts s x t
unfolding half_parts
parts_low s x t e = rw (e) refl

pub parts_infinite : (s : Bool) (x t : ℕ) → x ≡ 31 → t ≡ 0 → inf s ≡ half_parts s x t
unfolding half_parts
parts_infinite s x t e z = rw (e, z) refl

pub parts_nan : (s : Bool) (x t : ℕ) → x ≡ 31 → (t ≡ 0 → ⊥) → nan ≡ half_parts s x t
unfolding half_parts
parts_nan s x t e z = rw (e, ne_eqb t 0 z) refl

pub parts_normal : (s : Bool) (x t : ℕ) → (x ≡ 0 → ⊥) → (x ≡ 31 → ⊥)
    → odd 11 s (1024 + t) (x - 1) 24 ≡ half_parts s x t
unfolding half_parts
parts_normal s x t z e = rw (ne_eqb x 0 z, ne_eqb x 31 e) refl

parts_negated : (x t : ℕ) → neg (half_parts false x t) ≡ half_parts true x t
unfolding half_parts neg
parts_negated x t = go (eqb x 0) (eqb x 31) (eqb t 0)
  where
    go : (a b c : Bool)
        → neg (cond a (odd 11 false t 0 24) (cond b (cond c (inf false) nan)
        (odd 11 false (1024 + t) (x - 1) 24)))
        ≡ cond a (odd 11 true t 0 24) (cond b (cond c (inf true) nan)
        (odd 11 true (1024 + t) (x - 1) 24))
    go true b c = negated t 0 24
    go false true true = refl
    go false true false = refl
    go false false c = negated (1024 + t) (x - 1) 24

pub half_below : (bits : ℕ) → bits < 0x8000
    → half_parts false (bits / 1024 % 32) (bits % 1024) ≡ half_number bits
unfolding half_number
half_below bits h = rw (lt-leb 0x8000 bits h) refl

pub half_above : (bits : ℕ) → 0x8000 ≤ bits
    → neg (half_parts false (bits / 1024 % 32) (bits % 1024)) ≡ half_number bits
unfolding half_number
half_above bits h =
    rw (le-leb 0x8000 bits h) (parts_negated (bits / 1024 % 32) (bits % 1024))

-- ---- numbers that binary32 holds

held_as : (s : Bool) (m : ℕ) (e : ℤ) (j : ℕ) → T (fits binary32 (fin s m e))
    → m * up e * 2 ^ 149 ≡ m * 2 ^ j * down e → m < 2 ^ 24 → m * 2 ^ j < 2 ^ 277
    → round binary32 s (m * up e) (down e) ≡ fin s m e
held_as s m e j held same few small =
    let size = m * 2 ^ j in
    round_same binary32 s (m * up e) (down e) size (2 ^ 149) (down_pos e) (pow_pos 149) same
    ∙ same_value (round binary32 s size (2 ^ 149)) (fin s m e) s size
    (round-fits binary32 s size (2 ^ 149)) held
    (round_exact binary32 s size (2 ^ 149) m j (pow_pos 149) few small refl)
    (refl, same)

within : (k : ℕ) → 2 ^ suc k ≤ 2 ^ 149 → suc k ≤ 149
within k h = elim (eq-zero-or-pos (suc k - 149)) [
  | inl z ↦ omega arith
  | inr p ↦ let l : 149 < suc k = omega arith in elim (not-le_of_lt (pow-lt l) h) [ ]
]

held_odd : (s : Bool) (m : ℕ) (e : ℤ) → T (fits binary32 (fin s m e)) → m < 2 ^ 24
    → down e ≤ 2 ^ 149 → m * up e < 2 ^ 128 * down e
    → round binary32 s (m * up e) (down e) ≡ fin s m e
held_odd s m (pos k) held few low high =
    let power : 2 ^ (k + 149) ≡ 2 ^ k * 2 ^ 149 = pow-add 2 k 149 in
    let same : m * 2 ^ k * 2 ^ 149 ≡ m * 2 ^ (k + 149) * 1 =
    mul_assoc m (2 ^ k) (2 ^ 149) ∙ ap (λ (z : ℕ). m * z) (sym power)
    ∙ sym (mul-one (m * 2 ^ (k + 149))) in
    let below : m * 2 ^ k * 2 ^ 149 < 2 ^ 128 * 1 * 2 ^ 149 =
    mul-lt-mul_of_pos_right high (pow_pos 149) in
    held_as s m (pos k) (k + 149) held same few
    (subst (λ (z : ℕ). z < 2 ^ 277) (same ∙ mul-one (m * 2 ^ (k + 149))) below)
held_odd s m (negsuc k) held few low high =
    let l : suc k ≤ 149 = within k low in
    let sum : 149 - suc k + suc k ≡ 149 = omega arith in
    let power : 2 ^ (149 - suc k) * 2 ^ suc k ≡ 2 ^ 149 =
    sym (pow-add 2 (149 - suc k) (suc k)) ∙ ap (λ (z : ℕ). 2 ^ z) sum in
    let same : m * 1 * 2 ^ 149 ≡ m * 2 ^ (149 - suc k) * 2 ^ suc k =
    ap (λ (z : ℕ). z * 2 ^ 149) (mul-one m) ∙ ap (λ (z : ℕ). m * z) (sym power)
    ∙ sym (mul_assoc m (2 ^ (149 - suc k)) (2 ^ suc k)) in
    let most : 24 + (149 - suc k) ≤ 277 = omega arith in
    held_as s m (negsuc k) (149 - suc k) held same few
    (lt_of_lt_of_le (shl_lt 24 (149 - suc k) few) (pow_mono most))

-- what binary32 holds is the nearest of its numbers to itself
pub held_rounded : (x : Float) → T (fits binary32 x) → round_to_format binary32 x ≡ x
unfolding round_to_format fits
held_rounded nan held = refl
held_rounded (inf s) held = refl
held_rounded (fin s zero e) held =
    held_as s 0 e 0 held (simp zero-mul) (lit< tt) (lit< tt)
held_rounded (fin s (suc m) e) held =
    let odds = eqb (suc m % 2) 1 in
    let few = ltb (suc m) (2 ^ 24) in
    let low = leb (down e) (2 ^ 149) in
    let high = ltb (suc m * up e) (2 ^ 128 * down e) in
    held_odd s (suc m) e held
    (ltb→lt (suc m) (2 ^ 24) (and_r odds few (and_l (odds && few) low
    (and_l (odds && few && low) high held))))
    (leb→le (down e) (2 ^ 149) (and_r (odds && few) low
    (and_l (odds && few && low) high held)))
    (ltb→lt (suc m * up e) (2 ^ 128 * down e) (and_r (odds && few && low) high held))

pub same_bits : (x y : Float) → fits binary64 x ≡ true → fits binary64 y ≡ true
    → to_bits binary64 x ≡ to_bits binary64 y → x ≡ y
same_bits x y p q same =
    sym (of_bits-to_bits binary64 x (T_from_true (fits binary64 x) p))
    ∙ ap (of_bits binary64) same
    ∙ of_bits-to_bits binary64 y (T_from_true (fits binary64 y) q)
