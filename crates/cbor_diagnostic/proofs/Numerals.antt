-- The numeral of a float: where it has a point, and that it reads as the same float once it is given
-- one.
use Rattle.std.proofs.Common.{◌≡◌, ◌≢◌, ℕ, zero, suc, ◌+◌, ◌*◌, ◌^◌, ◌<◌, Bool, true, false, cond, List, [], ◌∷◌, ◌++◌, length, get_or, Option, Some, None, refl, sym, ap, ◌∙◌, subst, arith, append-nil, append_assoc, true≢false, codes}
use Rattle.std.proofs.Math.Nat.{pow-suc}
use Rattle.std.proofs.lemmas.Int.Digits.{digits_value_push}
use Rattle.std.proofs.lemmas.Str.Parse.{digit_from_value}
use Rattle.std.specs.Float.{binary64, nan, inf, fin, float_is_finite, is_sign_negative}
use Rattle.std.specs.Float.Ieee as ieee
use Rattle.std.specs.Float.Ieee.{round, is_nan}
use Rattle.std.specs.Fmt.{sign_text}
use Rattle.std.specs.Str.Parse.{digits_value, AllDigits}
use lib.Ieee.Scale.{round_same}
use Rattle.fast_float.specs.Text.{Parts, nearest, tens_up, tens_down, text_of, IsWellFormed}
use Rattle.ryu.specs.Parse.{parse_float}
use Rattle.ryu.specs.Plain.{text_with, exponent_with, exponent_sign, IsPlain, IsPlusNumber}
use Rattle.ryu.proofs.Plus.{parse_float-text_with}
use Rattle.cbor_value.specs.Floats.{number_of}
use Rattle.cbor_value.specs.View.{float_view}
use Rattle.cbor_value.specs.declared.Float.{Float}
use Rattle.cbor_value.specs.declared.Float.TheVariants.{Half, Single, Double}
use Rattle.cbor_diagnostic.specs.Numerals.{IsNumeralOf, IsFloatNotation}
use Rattle.cbor_diagnostic.specs.Notation.{IsNotation}

-- ---- bytes that stand in a text, and that don't

abbrev pub Avoids : ℕ → List ℕ → Type 0
Avoids c [] = Unit {0}
Avoids c (b ∷ bs) = (b ≢ c) × Avoids c bs

avoids_both : (c : ℕ) (xs ys : List ℕ) → Avoids c xs → Avoids c ys → Avoids c (xs ++ ys)
avoids_both c [] ys p q = q
avoids_both c (x ∷ xs) ys p q = (p.0, avoids_both c xs ys p.1 q)

pub avoids_at : (c : ℕ) (bs : List ℕ) → Avoids c bs → (k : ℕ) → k < length bs → get_or bs k 0 ≢ c
avoids_at c [] p k lt = absurd (omega arith)
avoids_at c (b ∷ bs) p zero lt = p.0
avoids_at c (b ∷ bs) p (suc k) lt = avoids_at c bs p.1 k (omega arith)

-- a point and an `e` are no digits
no_dot_in_digits : (ds : List ℕ) → AllDigits 10 ds → Avoids 46 ds
no_dot_in_digits [] h = tt
no_dot_in_digits (d ∷ ds) h = let r = digit_from_value d h.0 in ((λ e. absurd (omega arith)), no_dot_in_digits ds h.1)

no_e_in_digits : (ds : List ℕ) → AllDigits 10 ds → Avoids 101 ds
no_e_in_digits [] h = tt
no_e_in_digits (d ∷ ds) h = let r = digit_from_value d h.0 in ((λ e. absurd (omega arith)), no_e_in_digits ds h.1)

no_dot_in_sign : (negative : Bool) → Avoids 46 (sign_text negative)
no_dot_in_sign true = ((λ e. absurd (omega arith)), tt)
no_dot_in_sign false = tt

no_e_in_sign : (negative : Bool) → Avoids 101 (sign_text negative)
no_e_in_sign true = ((λ e. absurd (omega arith)), tt)
no_e_in_sign false = tt

no_dot_in_exponent : (negative : Bool) (ds : List ℕ) → AllDigits 10 ds → Avoids 46 (exponent_with true negative ds)
no_dot_in_exponent negative [] h = tt
no_dot_in_exponent true (d ∷ ds) h = ((λ e. absurd (omega arith)), ((λ e. absurd (omega arith)), no_dot_in_digits (d ∷ ds) h))
no_dot_in_exponent false (d ∷ ds) h = ((λ e. absurd (omega arith)), ((λ e. absurd (omega arith)), no_dot_in_digits (d ∷ ds) h))

abbrev pub Has : ℕ → List ℕ → Type 0
Has c bs = (k : ℕ) × (k < length bs) × (get_or bs k 0 ≡ c)

has_after : (c : ℕ) (xs ys : List ℕ) → Has c ys → Has c (xs ++ ys)
has_after c [] ys h = h
has_after c (x ∷ xs) ys h = let r = has_after c xs ys h in (suc r.0, omega (arith, r.1), r.2)

-- ---- the point

-- without a point among its parts, the text has none
no_dot : (negative : Bool) (p : Parts) → IsWellFormed p → p.point ≡ false → Avoids 46 (sign_text negative ++ text_with true p)
no_dot negative p w none =
    avoids_both 46 _ _ (no_dot_in_sign negative)
    (avoids_both 46 _ _ (no_dot_in_digits p.whole w.whole_digits)
    (subst (λ (b : Bool). Avoids 46 (cond b (46 ∷ p.fraction) [] ++ exponent_with true p.exponent_negative p.exponent)) (sym none)
    (no_dot_in_exponent p.exponent_negative p.exponent w.exponent_digits)))

has_dot : (negative : Bool) (p : Parts) → p.point ≡ true → Has 46 (sign_text negative ++ text_with true p)
has_dot negative p some =
    has_after 46 (sign_text negative) _
    (has_after 46 p.whole _
    (subst (λ (b : Bool). Has 46 (cond b (46 ∷ p.fraction) [] ++ exponent_with true p.exponent_negative p.exponent)) (sym some)
    (0, omega arith, refl)))

-- ---- a numeral with a point

point_there : (negative b : Bool) (p : Parts) → IsWellFormed p → p.point ≡ b → Has 46 (sign_text negative ++ text_with true p) → b ≡ true
point_there negative true p w is h = refl
point_there negative false p w is h = absurd (avoids_at 46 _ (no_dot negative p w is) h.0 h.1 h.2)

point_missing : (negative b : Bool) (p : Parts) → p.point ≡ b → (Has 46 (sign_text negative ++ text_with true p) → ⊥) → b ≡ false
point_missing negative false p is missing = refl
point_missing negative true p is missing = absurd (missing (has_dot negative p is))

pub pointed : (x : ieee.Float) (text : List ℕ) (n m : ℕ) → IsPlusNumber n m text → parse_float binary64 text ≡ Some x → Has 46 text → IsNumeralOf x text
pointed x text n m (negative, p, is, plain, laid) reads dot =
    let some : p.point ≡ true = point_there negative p.point p plain.well_formed refl (subst (Has 46) is dot) in
    record {
      negative = negative;
      parts = p;
      is = is;
      well_formed = plain.well_formed;
      whole = plain.whole;
      point = some;
      fraction = plain.fraction some;
      reads = reads;
    }

-- ---- a numeral that is given one

-- the same parts, with a fraction of one zero
abbrev with_zero : Parts → Parts
with_zero p = record {
  whole = p.whole;
  point = true;
  fraction = 48 ∷ [];
  exponent_negative = p.exponent_negative;
  exponent = p.exponent;
  len = length (text_of (record p { point = true; fraction = 48 ∷ [] }));
}

still_well_formed : (p : Parts) → IsWellFormed p → IsWellFormed (with_zero p)
still_well_formed p w = record {
  whole_digits = w.whole_digits;
  fraction_digits = (omega arith, tt);
  exponent_digits = w.exponent_digits;
  no_point = λ e. absurd (true≢false e);
  no_exponent = w.no_exponent;
  len_is = refl;
}

ten_to_above : (k : ℕ) → 0 < 10 ^ k
ten_to_above zero = omega arith
ten_to_above (suc k) = let h = ten_to_above k in let e = pow-suc 10 k in omega arith

-- ten times as many of a tenth
products : (d u n k : ℕ) → k ≡ n * 10 → d * 10 * u * n ≡ d * u * k
products d u n k e = rw e (omega arith)

same_number : (negative : Bool) (p : Parts) → p.fraction ≡ [] → nearest binary64 negative (with_zero p) ≡ nearest binary64 negative p
same_number negative p none =
    let up = tens_up p in
    let e = cond p.exponent_negative (digits_value 10 p.exponent) 0 in
    let more : digits_value 10 (p.whole ++ 48 ∷ []) ≡ digits_value 10 p.whole * 10 = digits_value_push 10 p.whole 48 ∙ omega arith in
    let same : digits_value 10 (p.whole ++ p.fraction) ≡ digits_value 10 p.whole = ap (digits_value 10) (ap (λ (f : List ℕ). p.whole ++ f) none ∙ append-nil p.whole) in
    let short : length p.fraction ≡ 0 = ap length none in
    let deeper : 10 ^ (1 + e) ≡ 10 ^ e * 10 = ap (λ (k : ℕ). 10 ^ k) (omega arith) ∙ pow-suc 10 e in
    let flat : 10 ^ (length p.fraction + e) ≡ 10 ^ e = ap (λ (k : ℕ). 10 ^ k) (omega arith) in
    round_same binary64 negative _ _ _ _ (ten_to_above (1 + e)) (ten_to_above (length p.fraction + e))
    (rw (more, same, flat) (products (digits_value 10 p.whole) (10 ^ up) (10 ^ e) (10 ^ (1 + e)) deeper))

-- the numeral up to its `e`, and what follows that
abbrev before_e : Bool → Parts → List ℕ
before_e negative p = sign_text negative ++ p.whole

abbrev after_e : Parts → List ℕ
after_e p = exponent_sign true p.exponent_negative ++ p.exponent

no_e_before : (negative : Bool) (p : Parts) → IsWellFormed p → Avoids 101 (before_e negative p)
no_e_before negative p w = avoids_both 101 _ _ (no_e_in_sign negative) (no_e_in_digits p.whole w.whole_digits)

exponent_is : (negative : Bool) (ds : List ℕ) → 0 < length ds → exponent_with true negative ds ≡ 101 ∷ (exponent_sign true negative ++ ds)
exponent_is negative [] lt = absurd (omega arith)
exponent_is negative (d ∷ ds) lt = refl

-- where the text is cut
cut : (negative : Bool) (p : Parts) → p.point ≡ false → 0 < length p.exponent → sign_text negative ++ text_with true p ≡ before_e negative p ++ (101 ∷ after_e p)
cut negative p none some =
    ap (λ (b : Bool). sign_text negative ++ (p.whole ++ (cond b (46 ∷ p.fraction) [] ++ exponent_with true p.exponent_negative p.exponent))) none
    ∙ ap (λ (t : List ℕ). sign_text negative ++ (p.whole ++ t)) (exponent_is p.exponent_negative p.exponent some)
    ∙ sym (append_assoc (sign_text negative) p.whole (101 ∷ after_e p))

-- the text with the point
joined : (negative : Bool) (p : Parts) → 0 < length p.exponent → before_e negative p ++ (46 ∷ 48 ∷ 101 ∷ after_e p) ≡ sign_text negative ++ text_with true (with_zero p)
joined negative p some =
    append_assoc (sign_text negative) p.whole (46 ∷ 48 ∷ 101 ∷ after_e p)
    ∙ ap (λ (t : List ℕ). sign_text negative ++ (p.whole ++ (46 ∷ 48 ∷ t))) (sym (exponent_is p.exponent_negative p.exponent some))

-- What `split_once` finds in a numeral that has no point.
pub record IsCut (x : ieee.Float) (text before after : List ℕ) : Type 0 where
  pub at : text ≡ before ++ (101 ∷ after)
  pub first : (k : ℕ) → k < length before → get_or before k 0 ≢ 101
  pub made : IsNumeralOf x (before ++ (46 ∷ 48 ∷ 101 ∷ after))

pub unpointed : (x : ieee.Float) (text : List ℕ) (n m : ℕ) → IsPlusNumber n m text → parse_float binary64 text ≡ Some x → (Has 46 text → ⊥)
    → (before : List ℕ) × (after : List ℕ) × IsCut x text before after
unpointed x text n m (negative, p, is, plain, laid) reads no_dot_there =
    let w = plain.well_formed in
    let none : p.point ≡ false = point_missing negative p.point p refl (λ h. no_dot_there (subst (Has 46) (sym is) h)) in
    let some : 0 < length p.exponent = plain.marked none in
    let here : parse_float binary64 (sign_text negative ++ text_with true p) ≡ Some (nearest binary64 negative p) = parse_float-text_with binary64 negative p w plain.whole in
    let there = parse_float-text_with binary64 negative (with_zero p) (still_well_formed p w) plain.whole in
    let join = joined negative p some in (
      before_e negative p,
      after_e p,
      record {
        at = is ∙ cut negative p none some;
        first = avoids_at 101 _ (no_e_before negative p w);
        made = record {
          negative = negative;
          parts = with_zero p;
          is = join;
          well_formed = still_well_formed p w;
          whole = plain.whole;
          point = refl;
          fraction = omega arith;
          reads = ap (parse_float binary64) join ∙ there ∙ ap (λ (y : ieee.Float). Some y) (same_number negative p (w.no_point none)) ∙ sym here ∙ ap (parse_float binary64) (sym is) ∙ reads;
        };
      },
    )

-- ---- which floats are numerals, and which are words

pub numeral_is : (x : ieee.Float) (text : List ℕ) → float_is_finite x ≡ true → IsNumeralOf x text → IsFloatNotation x text
unfolding float_is_finite
numeral_is nan text finite is = cc
numeral_is (inf s) text finite is = cc
numeral_is (fin s m e) text finite is = is

pub nan_is : (x : ieee.Float) → is_nan x ≡ true → IsFloatNotation x (codes "NaN")
unfolding is_nan
nan_is nan h = refl
nan_is (inf s) h = cc
nan_is (fin s m e) h = cc

pub infinity_is : (x : ieee.Float) (negative : Bool) → float_is_finite x ≡ false → is_nan x ≡ false → is_sign_negative x ≡ negative → IsFloatNotation x (sign_text negative ++ codes "Infinity")
unfolding float_is_finite is_nan is_sign_negative
infinity_is nan negative infinite number sign = cc
infinity_is (inf s) negative infinite number sign = ap (λ (b : Bool). sign_text b ++ codes "Infinity") (sym sign)
infinity_is (fin s m e) negative infinite number sign = cc

pub float_notation : (indent : Option ℕ) (f : Float) (text : List ℕ) → IsFloatNotation (number_of f) text → IsNotation indent (float_view f) text
float_notation indent (Half bits) text is = is
float_notation indent (Single bits) text is = is
float_notation indent (Double bits) text is = is
