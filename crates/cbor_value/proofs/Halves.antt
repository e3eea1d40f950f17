-- The half that is found for a single is the same number, and one is found wherever there is one.
use Rattle.std.proofs.Common.{◌≡◌, ◌∙◌, inl, inr, sym, ap, subst, refl, arith, lit<, lit≤}
use Rattle.std.proofs.lemmas.Bool.{eqb-true, eq-eqb, ne_eqb, leb-true, le-leb}
use Rattle.std.proofs.lemmas.Bool.{lt-leb, cond_both, cases_eq, cases_lt, and_parts, and_from}
use Rattle.std.proofs.lemmas.Bool.{both_ways, true≢false}
use Rattle.std.specs.Prelude.{ℕ, zero, suc, ◌+◌, ◌-◌, ◌*◌, ◌/◌, ◌%◌, ◌^◌, ◌<◌, ◌≤◌, Bool, true, false}
use Rattle.std.specs.Prelude.{cond, ◌&&◌, eqb, leb, T, not, Option, Some, None, is_some}
use lib.Ieee.{Float, nan, inf, fin, binary32, is_nan, fits, odd, of_fields, of_bits, to_bits}
use lib.Ieee.Bits.{of_bits-fits, to_bits-of_bits}
use lib.Pow.{pow_mono, split, shr_lt, field}
use native.Mathlib.Nat.{lt_of_lt_of_le, mul-mod_left, mul_left_comm, pow-succ'}
use Rattle.cbor_value.specs.Floats.{half_parts, half_number}
use Rattle.cbor_value.specs.Shortest.{half_by, half_of}
use Rattle.cbor_value.proofs.Numbers.{same_odd}

or_zero : Option ℕ → ℕ
or_zero (Some n) = n
or_zero None = 0

pub same : (a b : ℕ) → Some a ≡ Some b → a ≡ b
unfolding or_zero
same a b e = ap or_zero e

pub found : (a : ℕ) → Some a ≡ None → ⊥
found a e = true≢false (ap is_some e)

-- ---- fields

-- the sign's place in binary16
abbrev sign : Bool → ℕ
sign s = cond s (2 ^ 15) 0

half_fields : (s : Bool) (e t : ℕ) → e < 32 → t < 1024
    → half_number (sign s + e * 1024 + t) ≡ half_parts s e t
unfolding half_number
half_fields true e t E F =
    let b = 2 ^ 15 + e * 1024 + t in
    let x : b / 1024 % 32 ≡ e = omega arith in
    let y : b % 1024 ≡ t = omega arith in
    rw (le-leb 0x8000 b (omega arith), x, y) refl
half_fields false e t E F =
    let b = 0 + e * 1024 + t in
    let x : b / 1024 % 32 ≡ e = omega arith in
    let y : b % 1024 ≡ t = omega arith in
    rw (lt-leb 0x8000 b (omega arith), x, y) refl

normal_half : (s : Bool) (e t : ℕ) → 0 < e → e < 31
    → half_parts s e t ≡ odd 11 s (1024 + t) (e - 1) 24
unfolding half_parts
normal_half s e t low high = rw (ne_eqb e 0 (omega arith), ne_eqb e 31 (omega arith)) refl

small_half : (s : Bool) (t : ℕ) → half_parts s 0 t ≡ odd 11 s t 0 24
unfolding half_parts
small_half s t = refl

normal_single : (s : Bool) (x t : ℕ) → 0 < x → x < 255
    → of_fields binary32 s x t ≡ odd 24 s (2 ^ 23 + t) (x - 1) 149
unfolding of_fields
normal_single s zero t low high = absurd (omega arith)
normal_single s (suc x) t low high =
    let e : x ≡ suc x - 1 = omega arith in
    rw (ne_eqb (suc x) 255 (omega arith)) (ap (λ (z : ℕ). odd 24 s (2 ^ 23 + t) z 149) e)

-- a single's bits by its fields
abbrev single_bits : Bool → ℕ → ℕ → ℕ
single_bits s x t = cond s (2 ^ 31) 0 + x * 2 ^ 23 + t

single_fields : (s : Bool) (x t : ℕ) → x < 256 → t < 2 ^ 23
    → of_bits binary32 (single_bits s x t) ≡ of_fields binary32 s x t
unfolding of_bits
single_fields true x t X F =
    let b = 2 ^ 31 + x * 2 ^ 23 + t in
    let y : b % 2 ^ 31 / 2 ^ 23 ≡ x = omega arith in
    let z : b % 2 ^ 23 ≡ t = omega arith in
    rw (le-leb (2 ^ 31) b (omega arith), y, z) refl
single_fields false x t X F =
    let b = 0 + x * 2 ^ 23 + t in
    let y : b % 2 ^ 31 / 2 ^ 23 ≡ x = omega arith in
    let z : b % 2 ^ 23 ≡ t = omega arith in
    rw (lt-leb (2 ^ 31) b (omega arith), y, z) refl

half_of_fields : (s : Bool) (x t : ℕ) → x < 256 → t < 2 ^ 23
    → half_of (single_bits s x t) ≡ half_by (sign s) x t
half_of_fields true x t X F =
    let b = 2 ^ 31 + x * 2 ^ 23 + t in
    let y : b / 2 ^ 23 % 2 ^ 8 ≡ x = omega arith in
    let z : b % 2 ^ 23 ≡ t = omega arith in
    rw (le-leb (2 ^ 31) b (omega arith), y, z) refl
half_of_fields false x t X F =
    let b = 0 + x * 2 ^ 23 + t in
    let y : b / 2 ^ 23 % 2 ^ 8 ≡ x = omega arith in
    let z : b % 2 ^ 23 ≡ t = omega arith in
    rw (lt-leb (2 ^ 31) b (omega arith), y, z) refl

-- ---- what is found is the same number

endless : (z s : Bool) → half_number (cond z (sign s + 0x7c00) 0x7e00) ≡ cond z (inf s) nan
unfolding half_number half_parts
endless true true = refl
endless true false = refl
endless false true = refl
endless false false = refl

last_exponent : (s : Bool) (t : ℕ) → of_fields binary32 s 255 t ≡ cond (eqb t 0) (inf s) nan
unfolding of_fields
last_exponent s t = refl

nothing : (s : Bool) → half_number (sign s) ≡ of_fields binary32 s 0 0
unfolding half_number half_parts of_fields odd
nothing true = refl
nothing false = refl

normal : (s : Bool) (x t : ℕ) → t < 2 ^ 23 → 113 ≤ x → x ≤ 142 → t % 2 ^ 13 ≡ 0
    → half_number (sign s + (x - 112) * 1024 + t / 2 ^ 13) ≡ of_fields binary32 s x t
normal s x t F low high even =
    let f = t / 2 ^ 13 in
    let e = x - 112 in
    let is : 2 ^ 23 + t ≡ (1024 + f) * 2 ^ 13 = omega arith in
    let sum : 13 + (x - 1) ≡ e - 1 + 125 = omega arith in
    half_fields s e f (omega arith) (omega arith)
    ∙ normal_half s e f (omega arith) (omega arith)
    ∙ same_odd s (1024 + f) (e - 1) (2 ^ 23 + t) 13 (x - 1)
    (omega arith) (omega arith) (omega arith) is sum
    ∙ sym (normal_single s x t (omega arith) (omega arith))

small : (s : Bool) (x t : ℕ) → t < 2 ^ 23 → 103 ≤ x → x ≤ 112
    → (2 ^ 23 + t) % 2 ^ (126 - x) ≡ 0
    → half_number (sign s + (2 ^ 23 + t) / 2 ^ (126 - x) % 1024) ≡ of_fields binary32 s x t
small s x t F low high even =
    let n = 126 - x in
    let p = 2 ^ 23 + t in
    let q = p / 2 ^ n in
    let digits : 24 ≤ 10 + n = omega arith in
    let below : p < 2 ^ 24 = omega arith in
    let wide : p < 2 ^ (10 + n) = lt_of_lt_of_le below (pow_mono digits) in
    let few : q < 2 ^ 10 = shr_lt 10 n wide in
    let cut : q % 1024 ≡ q = omega arith in
    let is : p ≡ q * 2 ^ n =
    sym (split p n) ∙ ap (λ (z : ℕ). q * 2 ^ n + z) even ∙ omega arith in
    let sum : n + (x - 1) ≡ 0 + 125 = omega arith in
    let at : sign s + q % 1024 ≡ sign s + 0 * 1024 + q = omega arith in
    ap half_number at
    ∙ half_fields s 0 q (omega arith) (omega arith)
    ∙ small_half s q
    ∙ same_odd s q 0 p n (x - 1) (omega arith) (omega arith) (omega arith) is sum
    ∙ sym (normal_single s x t (omega arith) (omega arith))

abbrev IsSame : Bool → ℕ → ℕ → ℕ → Option ℕ → Type 0
IsSame s x t h o = o ≡ Some h → half_number h ≡ of_fields binary32 s x t

same_fields : (s : Bool) (x t h : ℕ) → t < 2 ^ 23 → IsSame s x t h (half_by (sign s) x t)
same_fields s x t h F =
    cond_both (eqb x 255) _ _ (IsSame s x t h)
    (λ is e. ap half_number (sym (same _ h e)) ∙ endless (eqb t 0) s ∙ sym (last_exponent s t)
    ∙ ap (λ (z : ℕ). of_fields binary32 s z t) (sym (eqb-true x 255 is)))
    (λ not_last. cond_both (eqb x 0 && eqb t 0) _ _ (IsSame s x t h)
    (λ is e. let zeros = and_parts (eqb x 0) (eqb t 0) is in
    ap half_number (sym (same _ h e)) ∙ nothing s
    ∙ ap (λ (z : ℕ). of_fields binary32 s z 0) (sym (eqb-true x 0 zeros.0))
    ∙ ap (λ (z : ℕ). of_fields binary32 s x z) (sym (eqb-true t 0 zeros.1)))
    (λ not_zero. cond_both (leb 113 x && (leb x 142 && eqb (t % 2 ^ 13) 0)) _ _ (IsSame s x t h)
    (λ is e. let a = and_parts (leb 113 x) (leb x 142 && eqb (t % 2 ^ 13) 0) is in
    let b = and_parts (leb x 142) (eqb (t % 2 ^ 13) 0) a.1 in
    ap half_number (sym (same _ h e))
    ∙ normal s x t F (leb-true 113 x a.0) (leb-true x 142 b.0) (eqb-true (t % 2 ^ 13) 0 b.1))
    (λ not_normal. cond_both
    (leb 103 x && (leb x 112 && eqb ((2 ^ 23 + t) % 2 ^ (126 - x)) 0)) _ _ (IsSame s x t h)
    (λ is e. let last = eqb ((2 ^ 23 + t) % 2 ^ (126 - x)) 0 in
    let a = and_parts (leb 103 x) (leb x 112 && last) is in
    let b = and_parts (leb x 112) last a.1 in
    ap half_number (sym (same _ h e))
    ∙ small s x t F (leb-true 103 x a.0) (leb-true x 112 b.0)
    (eqb-true ((2 ^ 23 + t) % 2 ^ (126 - x)) 0 b.1))
    (λ none e. absurd (found h (sym e))))))

-- ---- one is found for each half

abbrev IsFound : Option ℕ → Type 0
IsFound o = o ≡ None → ⊥

-- where one of the tests holds, some half is found
find_last : (s : Bool) (t : ℕ) → IsFound (half_by (sign s) 255 t)
find_last s t e = found _ e

find_normal : (p x t : ℕ) → 113 ≤ x → x ≤ 142 → t % 2 ^ 13 ≡ 0 → IsFound (half_by p x t)
find_normal p x t low high even =
    let last = eqb (t % 2 ^ 13) 0 in
    let holds = and_from (leb 113 x) (leb x 142 && last) (le-leb 113 x low)
    (and_from (leb x 142) last (le-leb x 142 high) (eq-eqb (t % 2 ^ 13) 0 even)) in
    cond_both (eqb x 255) _ _ IsFound (λ is e. found _ e)
    (λ a. cond_both (eqb x 0 && eqb t 0) _ _ IsFound (λ is e. found _ e)
    (λ b. cond_both (leb 113 x && (leb x 142 && last)) _ _ IsFound (λ is e. found _ e)
    (λ c e. both_ways _ c holds)))

find_small : (p x t : ℕ) → 103 ≤ x → x ≤ 112 → (2 ^ 23 + t) % 2 ^ (126 - x) ≡ 0
    → IsFound (half_by p x t)
find_small p x t low high even =
    let last = eqb ((2 ^ 23 + t) % 2 ^ (126 - x)) 0 in
    let holds = and_from (leb 103 x) (leb x 112 && last) (le-leb 103 x low)
    (and_from (leb x 112) last (le-leb x 112 high)
    (eq-eqb ((2 ^ 23 + t) % 2 ^ (126 - x)) 0 even)) in
    cond_both (eqb x 255) _ _ IsFound (λ is e. found _ e)
    (λ a. cond_both (eqb x 0 && eqb t 0) _ _ IsFound (λ is e. found _ e)
    (λ b. cond_both (leb 113 x && (leb x 142 && eqb (t % 2 ^ 13) 0)) _ _ IsFound
    (λ is e. found _ e)
    (λ c. cond_both (leb 103 x && (leb x 112 && last)) _ _ IsFound (λ is e. found _ e)
    (λ d e. both_ways _ d holds))))

-- the bits of a single that is this number, for which a half is found
record HasSingle (v : Float) : Type 0 where
  bits : ℕ
  below : bits < 2 ^ 32
  number : of_bits binary32 bits ≡ v
  half : IsFound (half_of bits)

by_fields : (s : Bool) (x t : ℕ) (v : Float) → x < 256 → t < 2 ^ 23
    → of_fields binary32 s x t ≡ v → IsFound (half_by (sign s) x t) → HasSingle v
by_fields s x t v X F number half = record {
  bits = single_bits s x t;
  below = below s;
  number = single_fields s x t X F ∙ number;
  half = λ e. half (sym (half_of_fields s x t X F) ∙ e);
}
  where
    below : (s : Bool) → single_bits s x t < 2 ^ 32
    below true = omega arith
    below false = omega arith

-- how far a fraction is shifted until it has 24 digits
record Shifted (t : ℕ) : Type 0 where
  by : ℕ
  least : 14 ≤ by
  most : by ≤ 23
  low : 2 ^ 23 ≤ t * 2 ^ by
  high : t * 2 ^ by < 2 ^ 24

shifted_from : (t d n : ℕ) → 0 < t → 14 ≤ n → d + n ≡ 23 → t * 2 ^ n < 2 ^ 24 → Shifted t
shifted_from t zero n some least sum high =
    let e : n ≡ 23 = omega arith in record {
      by = n;
      least = least;
      most = omega arith;
      low = subst (λ (z : ℕ). 2 ^ 23 ≤ t * 2 ^ z) (sym e) (omega arith);
      high = high;
    }
shifted_from t (suc d) n some least sum high = elim (cases_lt (t * 2 ^ n) (2 ^ 23)) [
  | inl less ↦
      let twice : 2 * (t * 2 ^ n) ≡ t * 2 ^ suc n =
      mul_left_comm 2 t (2 ^ n) ∙ ap (λ (z : ℕ). t * z) (sym (pow-succ' 2 n)) in
      let below : 2 * (t * 2 ^ n) < 2 ^ 24 = omega arith in
      shifted_from t d (suc n) some (omega arith) (omega arith)
      (subst (λ (z : ℕ). z < 2 ^ 24) twice below)
  | inr low ↦ record { by = n; least = least; most = omega arith; low = low; high = high }
]

shifted : (t : ℕ) → 0 < t → t < 1024 → Shifted t
shifted t some few = shifted_from t 9 14 some (lit≤ tt) refl (omega arith)

small_single : (s : Bool) (t : ℕ) → 0 < t → t < 1024 → HasSingle (half_parts s 0 t)
small_single s t some few =
    let g = shifted t some few in
    let least = g.least in
    let most = g.most in
    let low = g.low in
    let high = g.high in
    let x = 126 - g.by in
    let u = t * 2 ^ g.by - 2 ^ 23 in
    let whole : 2 ^ 23 + u ≡ t * 2 ^ g.by = omega arith in
    let by : 126 - x ≡ g.by = omega arith in
    let sum : g.by + (x - 1) ≡ 0 + 125 = omega arith in
    let full : 2 ^ 23 + u < 2 ^ 24 = omega arith in
    by_fields s x u (half_parts s 0 t) (omega arith) (omega arith)
    (normal_single s x u (omega arith) (omega arith)
    ∙ sym (same_odd s t 0 (2 ^ 23 + u) g.by (x - 1) (omega arith) full (lit< tt) whole sum)
    ∙ sym (small_half s t))
    (find_small (sign s) x u (omega arith) (omega arith)
    (ap (λ (z : ℕ). z % 2 ^ (126 - x)) whole ∙ ap (λ (z : ℕ). t * 2 ^ g.by % 2 ^ z) by
    ∙ mul-mod_left t (2 ^ g.by)))

normal_half_single : (s : Bool) (e t : ℕ) → 0 < e → e < 31 → t < 1024
    → HasSingle (half_parts s e t)
normal_half_single s e t low high few =
    let x = e + 112 in
    let u = t * 2 ^ 13 in
    let whole : 2 ^ 23 + u ≡ (1024 + t) * 2 ^ 13 = omega arith in
    let sum : 13 + (x - 1) ≡ e - 1 + 125 = omega arith in
    by_fields s x u (half_parts s e t) (omega arith) (omega arith)
    (normal_single s x u (omega arith) (omega arith)
    ∙ sym (same_odd s (1024 + t) (e - 1) (2 ^ 23 + u) 13 (x - 1)
    (omega arith) (omega arith) (omega arith) whole sum)
    ∙ sym (normal_half s e t low high))
    (find_normal (sign s) x u (omega arith) (omega arith) (mul-mod_left t (2 ^ 13)))

zero_single : (s : Bool) → HasSingle (half_parts s 0 0)
unfolding half_parts of_fields odd
zero_single s = by_fields s 0 0 (half_parts s 0 0) (lit< tt) (lit< tt) refl (λ e. found _ e)

infinite_single : (s : Bool) → HasSingle (half_parts s 31 0)
unfolding half_parts
infinite_single s =
    by_fields s 255 0 (half_parts s 31 0) (lit< tt) (lit< tt) (last_exponent s 0)
    (find_last s 0)

nan_single : (s : Bool) (t : ℕ) → (t ≡ 0 → ⊥) → HasSingle (half_parts s 31 t)
unfolding half_parts
nan_single s t some =
    by_fields s 255 1 (half_parts s 31 t) (lit< tt) (lit< tt)
    (last_exponent s 1 ∙ rw (ne_eqb t 0 some) refl) (find_last s 1)

has_single : (s : Bool) (e t : ℕ) → e < 32 → t < 1024 → HasSingle (half_parts s e t)
has_single s e t E F = elim (cases_eq e 0) [
  | inl z ↦ subst (λ (x : ℕ). HasSingle (half_parts s x t)) (sym z) (elim (cases_eq t 0) [
    | inl w ↦ subst (λ (x : ℕ). HasSingle (half_parts s 0 x)) (sym w) (zero_single s)
    | inr some ↦ small_single s t (omega arith) F
  ])
  | inr first ↦ elim (cases_eq e 31) [
    | inl z ↦ subst (λ (x : ℕ). HasSingle (half_parts s x t)) (sym z) (elim (cases_eq t 0) [
      | inl w ↦ subst (λ (x : ℕ). HasSingle (half_parts s 31 x)) (sym w) (infinite_single s)
      | inr some ↦ nan_single s t some
    ])
    | inr last ↦ normal_half_single s e t (omega arith) (omega arith) F
  ]
]

half_has_single : (h : ℕ) → HasSingle (half_number h)
unfolding half_number
half_has_single h =
    has_single (leb 0x8000 h) (h / 1024 % 32) (h % 1024) (omega arith) (omega arith)

-- ---- what follows for numbers

-- the half that is found is the single's number
pub half_is : (b h : ℕ) → half_of b ≡ Some h → half_number h ≡ of_bits binary32 b
unfolding of_bits
half_is b h e =
    same_fields (leb (2 ^ 31) b) (b / 2 ^ 23 % 2 ^ 8) (b % 2 ^ 23) h (omega arith) e
    ∙ ap (λ (z : ℕ). of_fields binary32 (leb (2 ^ 31) b) z (b % 2 ^ 23)) (sym (field b 8 23))

missing_number : (x : Float) → T (not (is_nan x)) → half_of (to_bits binary32 x) ≡ None → (h : ℕ)
    → half_number h ≡ x → ⊥
missing_number x some none h is =
    let g = half_has_single h in
    let number : of_bits binary32 g.bits ≡ x = g.number ∙ is in
    let bits : to_bits binary32 x ≡ g.bits =
    ap (to_bits binary32) (sym number)
    ∙ to_bits-of_bits binary32 g.bits g.below
    (subst (λ (z : Float). T (not (is_nan z))) (sym number) some) in
    g.half (ap half_of (sym bits) ∙ none)

-- where none is found there is none
pub half_missing : (x : Float) → half_of (to_bits binary32 x) ≡ None → (h : ℕ)
    → half_number h ≡ x → ⊥
unfolding to_bits is_nan
half_missing nan none h is = found _ none
half_missing (inf s) none h is = missing_number (inf s) tt none h is
half_missing (fin s m e) none h is = missing_number (fin s m e) tt none h is

-- binary32 holds what binary16 holds
pub half_held : (h : ℕ) → T (fits binary32 (half_number h))
half_held h =
    let g = half_has_single h in
    subst (λ (x : Float). T (fits binary32 x)) g.number (of_bits-fits binary32 g.bits)
