-- The shortest float of a number: the same number, in no more bits than another.
use Rattle.std.proofs.Common.{◌≡◌, ◌∙◌, sym, ap, subst, lit≤}
use Rattle.std.proofs.lemmas.Bool.{cond-true, cond-false, false_from_ne_true}
use Rattle.std.proofs.lemmas.Float.{T_from_true}
use Rattle.std.specs.Prelude.{ℕ, ◌≤◌, T, Some, None}
use lib.Ieee.{Float as Number, nan, binary32, binary64, fits, to_bits}
use lib.Ieee.Bits.{of_bits-fits, is_true}
use Rattle.cbor_model.specs.Plain.{float}
use Rattle.cbor_model.specs.Raw.{half, single, double}
use Rattle.cbor_value.specs.declared.Float.{Float}
use Rattle.cbor_value.specs.declared.Float.TheVariants.{Half, Single, Double}
use Rattle.cbor_value.specs.Floats.{number_of}
use Rattle.cbor_value.specs.Shortest.{half_of, half_or_single, shortest, width}
use Rattle.cbor_value.proofs.Halves.{half_missing, half_held, same, found}

-- ---- in which width

held : (x : Number) → T (fits binary32 x)
    → half_or_single (to_bits binary32 x) (half_of (to_bits binary32 x)) ≡ shortest x
unfolding shortest
held x fit = sym (cond-true (fits binary32 x) _ _ (is_true (fits binary32 x) fit))

pub in_half : (x : Number) (h : ℕ) → T (fits binary32 x) → half_of (to_bits binary32 x) ≡ Some h
    → float half h ≡ shortest x
in_half x h fit is = ap (half_or_single (to_bits binary32 x)) (sym is) ∙ held x fit

pub in_single : (x : Number) → T (fits binary32 x) → half_of (to_bits binary32 x) ≡ None
    → float single (to_bits binary32 x) ≡ shortest x
in_single x fit none = ap (half_or_single (to_bits binary32 x)) (sym none) ∙ held x fit

pub in_double : (x : Number) → (T (fits binary32 x) → ⊥)
    → float double (to_bits binary64 x) ≡ shortest x
unfolding shortest
in_double x not =
    sym (cond-false (fits binary32 x) _ _
    (false_from_ne_true (fits binary32 x) (λ e. not (T_from_true (fits binary32 x) e))))

-- ---- no other is narrower

pub none_above : (x : Number) → (T (fits binary32 x) → ⊥) → (other : Float) → number_of other ≡ x
    → 64 ≤ width other
none_above x not (Half h) is =
    absurd (not (subst (λ (y : Number). T (fits binary32 y)) is (half_held h)))
none_above x not (Single b) is =
    absurd (not (subst (λ (y : Number). T (fits binary32 y)) is (of_bits-fits binary32 b)))
none_above x not (Double b) is = lit≤ tt

pub none_between : (x : Number) → half_of (to_bits binary32 x) ≡ None → (other : Float)
    → number_of other ≡ x → 32 ≤ width other
none_between x none (Half h) is = absurd (half_missing x none h is)
none_between x none (Single b) is = lit≤ tt
none_between x none (Double b) is = lit≤ tt

-- ---- of a NaN

of_nan : (x : Number) → x ≡ nan → half_of (to_bits binary32 x) ≡ Some 0x7e00
unfolding to_bits
of_nan x is = ap (λ (y : Number). half_of (to_bits binary32 y)) is

pub nan_half : (x : Number) (h : ℕ) → x ≡ nan → half_of (to_bits binary32 x) ≡ Some h
    → 0x7e00 ≡ h
nan_half x h is some = same 0x7e00 h (sym (of_nan x is) ∙ some)

pub nan_found : (x : Number) → x ≡ nan → half_of (to_bits binary32 x) ≡ None → ⊥
nan_found x is none = found 0x7e00 (sym (of_nan x is) ∙ none)
