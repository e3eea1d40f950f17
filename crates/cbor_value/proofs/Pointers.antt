-- A path, a token at a time, and a token, a byte at a time.
use Rattle.std.proofs.Common.{◌≡◌, ◌≢◌, ℕ, zero, suc, ◌^◌, ◌<◌, ◌≤◌, List, [], ◌∷◌, ◌++◌, length}
use Rattle.std.proofs.Common.{get_or, true, false, ◌&&◌, cond, Option, Some, None, Result, Ok, Err}
use Rattle.std.proofs.Common.{option_and_then, nat_lt, refl, sym, ap, ap₂, ◌∙◌, arith}
use Rattle.std.proofs.Common.{ne_eqb, ◌==◌}
use Rattle.std.proofs.lemmas.Bool.Decides.{Decides-eqb}
use Rattle.std.proofs.lemmas.Fmt.{decimal_is_IsNumeral, decimal_digit, first_decimal, parse-decimal}
use Rattle.std.proofs.lemmas.Fmt.{decimal-digits_value}
use Rattle.std.proofs.lemmas.Slice.Eq.{bytes_eq-Decides}
use Rattle.std.proofs.lemmas.Str.Parse.{numerals_by_value, tells_digits, parse_plain, digit_at}
use Rattle.std.proofs.lemmas.Str.Parse.{IsNumeralModel}
use Rattle.std.specs.Fmt.{decimal}
use Rattle.std.specs.Result.{result_ok}
use Rattle.std.specs.Str.{bytes_eq}
use Rattle.std.specs.Str.Parse.{AllDigits, digits_value, ParsesUnsigned}
use Rattle.cbor_model.specs.Plain.{Val}
use Rattle.cbor_value.specs.Pointer.{onto, tokens, unescape, position_of, step, walk, pointer}

-- ---- the tokens of a path

-- no byte of the list is c
abbrev pub Lacks : ℕ → List ℕ → Type 0
Lacks c xs = (i : ℕ) → i < length xs → get_or xs i 0 ≢ c

pub tokens-first : (xs rest : List ℕ) → Lacks 47 xs → tokens (xs ++ 47 ∷ rest) ≡ xs ∷ tokens rest
unfolding tokens
tokens-first [] rest lacks = refl
tokens-first (x ∷ xs) rest lacks =
    rw (ne_eqb x 47 (lacks 0 (omega arith)))
    (ap (onto x) (tokens-first xs rest (λ i lt. lacks (suc i) (omega arith))))

pub tokens-last : (xs : List ℕ) → Lacks 47 xs → tokens xs ≡ xs ∷ []
unfolding tokens
tokens-last [] lacks = refl
tokens-last (x ∷ xs) lacks =
    rw (ne_eqb x 47 (lacks 0 (omega arith)))
    (ap (onto x) (tokens-last xs (λ i lt. lacks (suc i) (omega arith))))

pub walk-first : (xs rest : List ℕ) (v : Val) → Lacks 47 xs
    → walk (tokens (xs ++ 47 ∷ rest)) v ≡ option_and_then (walk (tokens rest)) (step xs v)
walk-first xs rest v lacks = ap (λ ts. walk ts v) (tokens-first xs rest lacks)

then_Some : (o : Option Val) → option_and_then (λ v. Some v) o ≡ o
then_Some None = refl
then_Some (Some v) = refl

pub walk-last : (xs : List ℕ) (v : Val) → Lacks 47 xs → walk (tokens xs) v ≡ step xs v
walk-last xs v lacks = ap (λ ts. walk ts v) (tokens-last xs lacks) ∙ then_Some (step xs v)

pub pointer-nowhere : (xs : List ℕ) (v : Val) → 0 < length xs
    → ((rest : List ℕ) → xs ≢ 47 ∷ rest) → pointer xs v ≡ None
pointer-nowhere [] v some other = absurd (omega arith)
pointer-nowhere (x ∷ xs) v some other =
    rw (ne_eqb x 47 (λ e. other xs (ap (λ y. y ∷ xs) e)))

-- ---- a token

-- a byte that begins no escape stands for itself
pub unescape-plain : (x : ℕ) (rest : List ℕ) → ((ys : List ℕ) → x ∷ rest ≢ 126 ∷ 49 ∷ ys)
    → ((ys : List ℕ) → x ∷ rest ≢ 126 ∷ 48 ∷ ys) → unescape (x ∷ rest) ≡ x ∷ unescape rest
unfolding unescape
unescape-plain x [] no_slash no_tilde = refl
unescape-plain x (y ∷ ys) no_slash no_tilde =
    let same : (n : ℕ) → x ≡ 126 → y ≡ n → x ∷ y ∷ ys ≡ 126 ∷ n ∷ ys =
    λ n e f. ap₂ (λ a b. a ∷ b ∷ ys) e f in
    elim (x == 126) as
    (λ b. x == 126 ≡ b
    → cond (b && (y == 49)) (47 ∷ unescape ys) (cond (b && (y == 48)) (126 ∷ unescape ys)
    (x ∷ unescape (y ∷ ys))) ≡ x ∷ unescape (y ∷ ys)) [
      | false ↦ λ other. refl
      | true ↦ λ tilde.
          let first = (Decides-eqb x 126).0 tilde in
          rw (
            ne_eqb y 49 (λ e. no_slash ys (same 49 first e)),
            ne_eqb y 48 (λ e. no_tilde ys (same 48 first e)),
          ) refl
    ] refl

-- ---- positions

digits : IsNumeralModel (AllDigits 10) (digits_value 10)
digits = numerals_by_value _ tells_digits

is_position : (t : List ℕ) (n : ℕ) → n < 2 ^ 64 → t ≡ decimal n → position_of t ≡ Some n
unfolding position_of
is_position t n small is =
    let value : digits_value 10 t ≡ n =
    ap (digits_value 10) is ∙ (decimal_is_IsNumeral n small).1 in
    let same : bytes_eq t (decimal n) ≡ true = (bytes_eq-Decides t (decimal n)).1 is in
    rw (value, same) (grind arith)

no_position : (t : List ℕ) → ((n : ℕ) → n < 2 ^ 64 → t ≢ decimal n) → position_of t ≡ None
unfolding position_of
no_position t none =
    let n = digits_value 10 t in
    elim (nat_lt n (2 ^ 64)) as
    (λ b. nat_lt n (2 ^ 64) ≡ b → cond (b && bytes_eq t (decimal n)) (Some n) None ≡ None) [
      | false ↦ λ large. refl
      | true ↦ λ small. elim (bytes_eq t (decimal n)) as
          (λ b. bytes_eq t (decimal n) ≡ b → cond b (Some n) None ≡ None) [
            | false ↦ λ other. refl
            | true ↦ λ same.
                absurd (none n (grind arith) ((bytes_eq-Decides t (decimal n)).0 same))
          ] refl
    ] refl

pub position-parsed : {E : Type 0} (t : List ℕ) (r : Result ℕ E) → ParsesUnsigned 64 10 t r
    → get_or t 0 0 ≢ 43 → (get_or t 0 0 ≡ 48 → length t ≤ 1) → result_ok r ≡ position_of t
position-parsed {E} t (Ok n) parses unsigned lead =
    let read = parse_plain digits {E = E} 64 t (Ok n) parses unsigned in
    let some : 0 < length t = read.0.1 in
    let alone : get_or t 0 0 ≡ 48 → length t ≡ 1 = λ zero. omega (arith, lead zero) in
    sym (is_position t n (omega (arith, read.1, read.0.2))
    (sym (decimal-digits_value digits t read.0.0 some alone read.0.2) ∙ ap decimal (sym read.1)))
position-parsed {E} t (Err e) parses unsigned lead =
    sym (no_position t (λ n small is.
    let wrong : Err e ≡ Ok n = parse-decimal 64 n t (Err e) small small is parses in
    cc))

pub position-sign : (t : List ℕ) → get_or t 0 0 ≡ 43 → None ≡ position_of t
position-sign t sign =
    sym (no_position t (λ n small is.
    let numeral = (decimal_is_IsNumeral n small).0 in
    let first = digit_at (decimal n) 0 numeral.1 numeral.0 in
    let same : get_or (decimal n) 0 0 ≡ 43 = rw (← is) sign in
    omega (arith, first.0, first.1)))

pub position-leading_zero : (t : List ℕ) → get_or t 0 0 ≡ 48 → 1 < length t → None ≡ position_of t
position-leading_zero t lead long =
    sym (no_position t (λ n small is. by n small is))
  where
    by : (n : ℕ) → n < 2 ^ 64 → t ≢ decimal n
    by zero small is =
        let one : length t ≡ 1 = ap length (is ∙ decimal_digit 0 (omega arith)) in
        omega arith
    by (suc n) small is =
        let same : get_or (decimal (suc n)) 0 0 ≡ 48 = rw (← is) lead in
        let above = first_decimal (suc n) (omega arith) small in
        omega arith
