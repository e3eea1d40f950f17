-- Floats that keep the rules are at their shortest, and those at their shortest keep them.
use Rattle.std.proofs.Common.{◌≡◌, ◌∙◌, sym, ap, subst, refl, ℕ, ◌<◌, ◌≤◌, ◌^◌, Bool, true, false, arith}
use Rattle.std.proofs.lemmas.Bool.{cond_both, cond-true, cond-false, eqb-true, eq-eqb, le-ltb, true≢false}
use Rattle.std.specs.Prelude.{◌&&◌, ◌==◌, not, nat_lt, T, Option, Some, None, is_some}
use lib.Ieee.{Float as Number, nan, inf, fin, binary32, binary64, is_nan, fits, to_bits, of_bits}
use lib.Ieee.Bits.{of_bits-fits, to_bits-of_bits, is_true}
use Rattle.cbor_model.specs.Plain.{Val, float}
use Rattle.cbor_model.specs.Raw.{FloatWidth, half, single, double, float_limit}
use Rattle.cbor_value.specs.Floats.{half_number}
use Rattle.cbor_value.specs.Shortest.{half_of, half_or_single, shortest}
use Rattle.cbor_rules.specs.Presets.{IsShortest}
use Rattle.cbor_rules.specs.Rules.{float_size, is_quiet_nan, is_wide, is_other_nan}

-- ---- the shortest float of a number

-- it is a float
pub record IsFloat (v : Val) : Type 0 where
  pub width : FloatWidth
  pub bits : ℕ
  pub is : v ≡ float width bits

abbrev of_half : (b : ℕ) (o : Option ℕ) → IsFloat (half_or_single b o)
of_half b (Some h) = record { width = half; bits = h; is = refl }
of_half b None = record { width = single; bits = b; is = refl }

pub shortest_is : (x : Number) → IsFloat (shortest x)
unfolding shortest
shortest_is x =
    cond_both (fits binary32 x) _ _ IsFloat (λ e. of_half (to_bits binary32 x) (half_of (to_bits binary32 x)))
    (λ e. record { width = double; bits = to_bits binary64 x; is = refl })

pub shortest_nan : shortest nan ≡ float half 0x7e00
unfolding shortest fits to_bits
shortest_nan = refl

found : (a : ℕ) → Some a ≡ None → ⊥
found a e = true≢false (ap is_some e)

narrow : (x : Number) → fits binary32 x ≡ true → shortest x ≡ half_or_single (to_bits binary32 x) (half_of (to_bits binary32 x))
unfolding shortest
narrow x is = cond-true (fits binary32 x) _ _ is

wide : (x : Number) → fits binary32 x ≡ false → shortest x ≡ float double (to_bits binary64 x)
unfolding shortest
wide x is = cond-false (fits binary32 x) _ _ is

some_number : (x : Number) → (x ≡ nan → ⊥) → T (not (is_nan x))
unfolding is_nan
some_number nan not_nan = not_nan refl
some_number (inf s) not_nan = tt
some_number (fin s m e) not_nan = tt

nan_found : (x : Number) → x ≡ nan → half_of (to_bits binary32 x) ≡ Some 0x7e00
unfolding to_bits
nan_found x is = ap (λ (y : Number). half_of (to_bits binary32 y)) is

nan_fits : (x : Number) → x ≡ nan → fits binary32 x ≡ true
unfolding fits
nan_fits x is = ap (fits binary32) is

-- ---- what is kept is at its shortest

quiet : (a b : Bool) → a ≡ true → (a && not b) ≡ false → b ≡ true
quiet true true is kept = refl
quiet true false is kept = absurd cc
quiet false b is kept = absurd cc

-- a float of this size, where the shortest is no narrower
abbrev IsKept : Val → ℕ → Type 0
IsKept s size = nat_lt (float_size s) size ≡ false

single_kept : (bits : ℕ) → bits < 2 ^ 32 → IsKept (shortest (of_bits binary32 bits)) 32 → shortest (of_bits binary32 bits) ≡ float single bits
single_kept bits few kept =
    let x = of_bits binary32 bits in
    by (half_of (to_bits binary32 x)) refl (narrow x (is_true (fits binary32 x) (of_bits-fits binary32 bits)))
  where
    by : (o : Option ℕ) → half_of (to_bits binary32 (of_bits binary32 bits)) ≡ o → shortest (of_bits binary32 bits) ≡ half_or_single (to_bits binary32 (of_bits binary32 bits)) o → shortest (of_bits binary32 bits) ≡ float single bits
    by (Some h) is short = absurd (true≢false (sym (ap (λ (s : Val). nat_lt (float_size s) 32) short) ∙ kept))
    by None is short =
        short ∙ ap (float single) (to_bits-of_bits binary32 bits few (some_number (of_bits binary32 bits) (λ e. found 0x7e00 (sym (nan_found (of_bits binary32 bits) e) ∙ is))))

double_kept : (bits : ℕ) → bits < 2 ^ 64 → IsKept (shortest (of_bits binary64 bits)) 64 → shortest (of_bits binary64 bits) ≡ float double bits
double_kept bits few kept = by (fits binary32 (of_bits binary64 bits)) refl
  where
    narrower : (o : Option ℕ) (b : ℕ) → shortest (of_bits binary64 bits) ≡ half_or_single b o → ⊥
    narrower (Some h) b short = true≢false (sym (ap (λ (s : Val). nat_lt (float_size s) 64) short) ∙ kept)
    narrower None b short = true≢false (sym (ap (λ (s : Val). nat_lt (float_size s) 64) short) ∙ kept)

    by : (fit : Bool) → fits binary32 (of_bits binary64 bits) ≡ fit → shortest (of_bits binary64 bits) ≡ float double bits
    by true is = absurd (narrower (half_of (to_bits binary32 (of_bits binary64 bits))) (to_bits binary32 (of_bits binary64 bits)) (narrow (of_bits binary64 bits) is))
    by false is =
        wide (of_bits binary64 bits) is
        ∙ ap (float double) (to_bits-of_bits binary64 bits few (some_number (of_bits binary64 bits) (λ e. true≢false (sym (nan_fits (of_bits binary64 bits) e) ∙ is))))

pub kept_shortest : (w : FloatWidth) (bits : ℕ) → bits < float_limit w → is_wide w bits ≡ false → is_other_nan w bits ≡ false → IsShortest w bits
kept_shortest half bits few narrow one = λ is.
    eqb-true bits 0x7e00 (quiet (is_quiet_nan (shortest (half_number bits))) (bits == 0x7e00) (ap (λ (x : Number). is_quiet_nan (shortest x)) is ∙ ap is_quiet_nan shortest_nan) one)
kept_shortest single bits few narrow one = single_kept bits few narrow
kept_shortest double bits few narrow one = double_kept bits few narrow

-- ---- what is at its shortest is kept

least_size : (x : Number) → 16 ≤ float_size (shortest x)
least_size x =
    let s = shortest_is x in
    subst (λ (v : Val). 16 ≤ float_size v) (sym s.is) (by s.width s.bits)
  where
    by : (w : FloatWidth) (bits : ℕ) → 16 ≤ float_size (float w bits)
    by half bits = omega arith
    by single bits = omega arith
    by double bits = omega arith

pub shortest_narrow : (w : FloatWidth) (bits : ℕ) → IsShortest w bits → is_wide w bits ≡ false
shortest_narrow half bits is = le-ltb (float_size (shortest (half_number bits))) 16 (least_size (half_number bits))
shortest_narrow single bits is = ap (λ (s : Val). nat_lt (float_size s) 32) is
shortest_narrow double bits is = ap (λ (s : Val). nat_lt (float_size s) 64) is

nan_bits : half_number 0x7e00 ≡ nan
unfolding half_number
nan_bits = refl

-- of which the shortest floats of equal numbers alone are equal
module _ (apart : (a b : ℕ) → shortest (half_number a) ≡ shortest (half_number b) → half_number a ≡ half_number b) where
  pub shortest_one : (w : FloatWidth) (bits : ℕ) → IsShortest w bits → is_other_nan w bits ≡ false
  shortest_one half bits is = by (is_quiet_nan (shortest (half_number bits))) refl
    where
      quiet_is : (s : Val) → IsFloat s → is_quiet_nan s ≡ true → s ≡ float half 0x7e00
      quiet_is s f is = f.is ∙ by_width f.width f.bits (sym (ap is_quiet_nan f.is) ∙ is)
        where
          by_width : (w : FloatWidth) (bits : ℕ) → is_quiet_nan (float w bits) ≡ true → float w bits ≡ float half 0x7e00
          by_width half bits is = ap (float half) (eqb-true bits 0x7e00 is)
          by_width single bits is = absurd cc
          by_width double bits is = absurd cc

      by : (q : Bool) → is_quiet_nan (shortest (half_number bits)) ≡ q → (q && not (bits == 0x7e00)) ≡ false
      by false e = refl
      by true e =
          let same = quiet_is (shortest (half_number bits)) (shortest_is (half_number bits)) e in
          let number = apart bits 0x7e00 (same ∙ sym (ap shortest nan_bits ∙ shortest_nan)) in
          ap (λ (b : Bool). not b) (eq-eqb bits 0x7e00 (is (number ∙ nan_bits)))
  shortest_one single bits is = ap (λ (s : Val). is_quiet_nan s && not (is_quiet_nan (float single bits))) is
  shortest_one double bits is = ap (λ (s : Val). is_quiet_nan s && not (is_quiet_nan (float double bits))) is
