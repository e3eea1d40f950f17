-- dCBOR writes two numbers alike where they are one number, and only there.
use Rattle.std.proofs.Common.{◌≡◌, ◌∙◌, ◌⊎◌, inl, inr, sym, ap, subst, refl, arith}
use Rattle.std.proofs.lemmas.Bool.{cond_both, true≢false}
use Rattle.std.specs.Prelude.{ℕ, zero, suc, ◌*◌, ◌^◌, ℤ, pos, negsuc, nat_abs, Bool, true, false}
use Rattle.std.specs.Prelude.{ltb, leb, T, Option, Some, None}
use lib.Ieee.{Float as Number, nan, inf, fin, binary64, fits}
use lib.Ieee.Back.{whole_unique}
use lib.Ieee.Exact.{HasValue}
use Rattle.cbor_model.specs.Plain.{Val, integer}
use Rattle.cbor_value.proofs.facts.Floats.{shortest_cases}
use Rattle.cbor_value.specs.declared.Float.{Float}
use Rattle.cbor_value.specs.declared.Float.TheVariants.{Half, Single, Double}
use Rattle.cbor_value.specs.Floats.{number_of}
use Rattle.cbor_value.specs.Shortest.{shortest}
use Rattle.cbor_value.specs.View.{float_view}
use Rattle.cbor_forms.specs.Reduced.{signed, integer_of, integer_or, reduced_number, with_one_zero}
use Rattle.cbor_forms.specs.Shortened.{rewritten, reduced}
use Rattle.cbor_forms.proofs.Forms.{some_same, found, shortest_apart, held}
use Rattle.cbor_forms.proofs.WholeOfBits.{integer_from}

-- ---- what a float's integer says of it

abbrev is_below : ℤ → Bool
is_below (pos n) = false
is_below (negsuc n) = true

-- the sign matters but for 0
signed_back : (s : Bool) (n : ℕ) (z : ℤ) → signed s n ≡ Some z
    → (n ≡ nat_abs z) × ((n ≡ 0) ⊎ (s ≡ is_below z))
signed_back false n z is =
    cond_both (ltb n (2 ^ 64)) _ _
    (λ o. o ≡ Some z → (n ≡ nat_abs z) × ((n ≡ 0) ⊎ (false ≡ is_below z)))
    (λ small e. (ap nat_abs (some_same (pos n) z e), inr (ap is_below (some_same (pos n) z e))))
    (λ big e. absurd (found z (sym e))) is
signed_back true zero z is =
    (ap nat_abs (some_same (pos 0) z is), inl refl)
signed_back true (suc n) z is =
    cond_both (leb (suc n) (2 ^ 63)) _ _
    (λ o. o ≡ Some z → (suc n ≡ nat_abs z) × ((suc n ≡ 0) ⊎ (true ≡ is_below z)))
    (λ small e. (
      ap nat_abs (some_same (negsuc n) z e),
      inr (ap is_below (some_same (negsuc n) z e)),
    ))
    (λ big e. absurd (found z (sym e))) is

-- its size, and its sign but for 0
record WholeOf (x : Number) (z : ℤ) : Type 0 where
  sign : Bool
  whole : HasValue x sign (nat_abs z) 1
  says : (nat_abs z ≡ 0) ⊎ (sign ≡ is_below z)

whole_of : (x : Number) (z : ℤ) → integer_of x ≡ Some z → WholeOf x z
whole_of nan z is = absurd (found z (sym is))
whole_of (inf s) z is = absurd (found z (sym is))
whole_of (fin s m (pos e)) z is =
    let h = signed_back s (m * 2 ^ e) z is in record {
      sign = s;
      whole = (refl, ap (λ (n : ℕ). n * 1) h.0);
      says = elim h.1 [ inl none ↦ inl (sym h.0 ∙ none) | inr same ↦ inr same ];
    }
whole_of (fin s m (negsuc e)) z is = absurd (found z (sym is))

-- the zeros
zero_is : (x : Number) (s : Bool) → T (fits binary64 x) → HasValue x s 0 1 → x ≡ fin s 0 (pos 0)
unfolding fits
zero_is x s fit is = whole_unique binary64 x (fin s 0 (pos 0)) s 0 fit tt is (refl, refl)

same_whole : (x y : Number) (z : ℤ) → T (fits binary64 x) → T (fits binary64 y) → WholeOf x z
    → WholeOf y z → with_one_zero x ≡ with_one_zero y
same_whole x y z fit held a b = elim (both a.says b.says) [
  | inl none ↦
      ap with_one_zero
      (zero_is x a.sign fit (subst (λ (n : ℕ). HasValue x a.sign n 1) none a.whole))
      ∙ sym (ap with_one_zero
      (zero_is y b.sign held (subst (λ (n : ℕ). HasValue y b.sign n 1) none b.whole)))
  | inr same ↦
      ap with_one_zero
      (whole_unique binary64 x y b.sign (nat_abs z) fit held
      (subst (λ (s : Bool). HasValue x s (nat_abs z) 1) same a.whole) b.whole)
]
  where
    both : (nat_abs z ≡ 0) ⊎ (a.sign ≡ is_below z) → (nat_abs z ≡ 0) ⊎ (b.sign ≡ is_below z)
        → (nat_abs z ≡ 0) ⊎ (a.sign ≡ b.sign)
    both (inl none) q = inl none
    both (inr p) (inl none) = inl none
    both (inr p) (inr q) = inr (p ∙ sym q)

-- ---- an integer is no float

abbrev is_integer : Val → Bool
is_integer (integer z) = true
is_integer _ = false

abbrev number_in : Val → ℤ
number_in (integer z) = z
number_in _ = pos 0

no_float : (x : Number) → T (fits binary64 x) → is_integer (shortest x) ≡ false
no_float x fit = shortest_cases (λ v. is_integer v ≡ false) x fit (λ w b is. refl)

apart : (x y : Number) (a b : Option ℤ) → T (fits binary64 x) → T (fits binary64 y)
    → integer_of x ≡ a → integer_of y ≡ b
    → integer_or (shortest x) a ≡ integer_or (shortest y) b → with_one_zero x ≡ with_one_zero y
apart x y (Some z) (Some w) fit held p q is =
    same_whole x y z fit held (whole_of x z p)
    (whole_of y z (q ∙ ap Some (sym (ap number_in is))))
apart x y (Some z) None fit held p q is =
    absurd (true≢false (ap is_integer is ∙ no_float y held))
apart x y None (Some w) fit held p q is =
    absurd (true≢false (ap is_integer (sym is) ∙ no_float x fit))
apart x y None None fit held p q is = ap with_one_zero (shortest_apart x y fit held is)

-- ---- one number

-- of either zero it is 0
of_zero : (s : Bool) (e : ℤ) → T (fits binary64 (fin s zero e))
    → integer_of (fin s zero e) ≡ Some (pos 0)
of_zero false e fit =
    integer_from (fin false zero e) false 0 fit (refl, none)
  where
    none : zero * lib.Ieee.up e * 1 ≡ 0 * lib.Ieee.down e
    none = grind arith
of_zero true e fit =
    integer_from (fin true zero e) true 0 fit (refl, none)
  where
    none : zero * lib.Ieee.up e * 1 ≡ 0 * lib.Ieee.down e
    none = grind arith

one_zero : (s : Bool) (e : ℤ) → T (fits binary64 (fin s zero e))
    → T (fits binary64 (fin false zero e))
unfolding fits
one_zero s e fit = fit

with_one_zero_same : (x : Number) → T (fits binary64 x)
    → reduced_number (with_one_zero x) ≡ reduced_number x
with_one_zero_same nan fit = refl
with_one_zero_same (inf s) fit = refl
with_one_zero_same (fin s zero e) fit =
    ap (integer_or (shortest (fin false zero e))) (of_zero false e (one_zero s e fit))
    ∙ sym (ap (integer_or (shortest (fin s zero e))) (of_zero s e fit))
with_one_zero_same (fin s (suc m) e) fit = refl

of_float : (a : Float) → reduced_number (number_of a) ≡ reduced (float_view a)
unfolding rewritten
of_float (Half bits) = refl
of_float (Single bits) = refl
of_float (Double bits) = refl

pub same_reduced : (a b : Float) → with_one_zero (number_of a) ≡ with_one_zero (number_of b)
    → reduced (float_view a) ≡ reduced (float_view b)
same_reduced a b is =
    sym (of_float a)
    ∙ sym (with_one_zero_same (number_of a) (held a))
    ∙ ap reduced_number is
    ∙ with_one_zero_same (number_of b) (held b)
    ∙ of_float b

pub same_numbers_reduced : (a b : Float) → reduced (float_view a) ≡ reduced (float_view b)
    → with_one_zero (number_of a) ≡ with_one_zero (number_of b)
same_numbers_reduced a b is =
    apart (number_of a) (number_of b) _ _ (held a) (held b) refl refl
    (of_float a ∙ is ∙ sym (of_float b))

-- ---- an integer and a float

pub integer_reduced : (a : Float) (z : ℤ) → integer_of (number_of a) ≡ Some z
    → reduced (float_view a) ≡ integer z
integer_reduced a z is =
    sym (of_float a) ∙ ap (integer_or (shortest (number_of a))) is

integer_found : (x : Number) (o : Option ℤ) (z : ℤ) → T (fits binary64 x)
    → integer_or (shortest x) o ≡ integer z → o ≡ Some z
integer_found x (Some w) z fit is = ap (λ (v : Val). Some (number_in v)) is
integer_found x None z fit is =
    absurd (true≢false (sym (ap is_integer is) ∙ no_float x fit))

pub reduced_integer : (a : Float) (z : ℤ) → reduced (float_view a) ≡ integer z
    → integer_of (number_of a) ≡ Some z
reduced_integer a z is =
    integer_found (number_of a) (integer_of (number_of a)) z (held a) (of_float a ∙ is)
