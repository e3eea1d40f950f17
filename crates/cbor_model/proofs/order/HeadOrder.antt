-- The shortest heads of one major type compare byte by byte as their numbers do.
use Rattle.std.proofs.Common.{◌≡◌, ℕ, zero, suc, ◌+◌, ◌*◌, ◌/◌, ◌%◌, ◌^◌, ◌<◌, ◌≤◌, ◌⊎◌, Bool, true, false, cond, List, [], ◌∷◌, ◌++◌, Ordering, Less, Equal, Greater, refl, sym, ap, ◌∙◌, inl, inr, arith}
use Rattle.std.specs.Prelude.{nat_lt}
use Rattle.std.specs.Int.{byte_at, bytes_high_first}
use Rattle.std.specs.Ordering.{ordering_then, ordering_reverse}
use Rattle.std.specs.Cmp.{nat_cmp_is}
use Rattle.std.specs.Cmp.Lexicographic.{nat_list_cmp_total}
use Rattle.std.proofs.Math.Nat.{div-one, mod-lt, mul-le-mul_right, one-le-pow, pow-succ'}
use Rattle.std.proofs.Math.Arith.{mod-mul}
use Rattle.std.proofs.lemmas.Bool.{cases_lt, ltb-false}
use Rattle.cbor_model.specs.Head.{HeadWidth, no_bytes, one_byte, two_bytes, four_bytes, eight_bytes, limit, info, behind, head, least, short}
use Rattle.cbor_model.specs.Order.{lex}
use Rattle.cbor_model.proofs.values.Canonical.{lt-limit-least}

-- ---- lists that differ in their first number, or begin alike

pub lex-less : (n m : ℕ) (p q : List ℕ) → n < m → lex (n ∷ p) (m ∷ q) ≡ Less
lex-less n m p q lt = ap (λ (o : Ordering). ordering_then o (lex p q)) (sym (nat_cmp_is n m Less lt))

pub lex-same : (n m : ℕ) (p q : List ℕ) → n ≡ m → lex (n ∷ p) (m ∷ q) ≡ lex p q
lex-same n m p q same = ap (λ (o : Ordering). ordering_then o (lex p q)) (sym (nat_cmp_is n m Equal same))

pub lex-front : (front x y : List ℕ) → lex (front ++ x) (front ++ y) ≡ lex x y
lex-front [] x y = refl
lex-front (n ∷ front) x y = lex-same n n (front ++ x) (front ++ y) refl ∙ lex-front front x y

pub lex-turned : (p q : List ℕ) → lex q p ≡ Less → lex p q ≡ Greater
lex-turned p q less = nat_list_cmp_total.antisymm p q ∙ ap ordering_reverse less

-- ---- the bytes of a number, the highest first

byte_at-pow : (k n : ℕ) → byte_at k n ≡ n / 256 ^ k % 256
byte_at-pow zero n = ap (λ (i : ℕ). i % 256) (sym (div-one n))
byte_at-pow (suc k) n = refl

pow_above : (k : ℕ) → 0 < 256 ^ k
pow_above k = let h = one-le-pow k 256 (omega arith) in omega arith

-- the low bytes of a number are its next byte and those below
next_byte : (k n : ℕ) → n % 256 ^ suc k ≡ byte_at k n * 256 ^ k + n % 256 ^ k
next_byte k n = rw (pow-succ' 256 k, byte_at-pow k n) (mod-mul n {m = 256} {c = 256 ^ k} (omega arith) (pow_above k))

-- of two numbers in two digits the first digits decide, and only then the second
digits_less : (c a r b s : ℕ) → r < c → s < c → a * c + r < b * c + s → (a < b) ⊎ ((a ≡ b) × (r < s))
digits_less c a r b s r_fits s_fits less =
    elim (cases_lt a b) [
      | inl lt ↦ inl lt
      | inr le ↦
          elim (cases_lt b a) [
            | inl gt ↦ absurd (omega (arith, mul-le-mul_right c (let one_more : suc b ≤ a = omega arith in one_more)))
            | inr ge ↦ let same : a ≡ b = omega arith in inr (same, omega (arith, ap (λ (d : ℕ). d * c) same))
          ]
    ]

pub bytes_less : (k n m : ℕ) (x y : List ℕ) → n % 256 ^ k < m % 256 ^ k → lex (bytes_high_first k n ++ x) (bytes_high_first k m ++ y) ≡ Less
bytes_less zero n m x y less = absurd (omega arith)
bytes_less (suc k) n m x y less =
    let others = λ (i : ℕ) (z : List ℕ). bytes_high_first k i ++ z in
    elim (digits_less (256 ^ k) (byte_at k n) (n % 256 ^ k) (byte_at k m) (m % 256 ^ k) (mod-lt n (pow_above k)) (mod-lt m (pow_above k)) (omega (arith, next_byte k n, next_byte k m))) [
      | inl first ↦ lex-less (byte_at k n) (byte_at k m) (others n x) (others m y) first
      | inr later ↦ lex-same (byte_at k n) (byte_at k m) (others n x) (others m y) later.0 ∙ bytes_less k n m x y later.1
    ]

-- ---- heads

-- the least width by cases, each of which knows where the number lies
module _ (P : HeadWidth → Type 0) (n : ℕ) where
  first_or : (b : Bool) (u w : HeadWidth) → nat_lt n (limit u) ≡ b → P u → (limit u ≤ n → P w) → P (cond b u w)
  first_or true u w is here other = here
  first_or false u w is here other = other (ltb-false n (limit u) is)

  pub least-cases : P no_bytes → (24 ≤ n → P one_byte) → (2 ^ 8 ≤ n → P two_bytes) → (2 ^ 16 ≤ n → P four_bytes) → (2 ^ 32 ≤ n → P eight_bytes) → P (least n)
  least-cases none one two four eight =
      first_or (nat_lt n (limit no_bytes)) no_bytes _ refl none (λ a.
      first_or (nat_lt n (limit one_byte)) one_byte _ refl (one a) (λ b.
      first_or (nat_lt n (limit two_bytes)) two_bytes _ refl (two b) (λ c.
      first_or (nat_lt n (limit four_bytes)) four_bytes eight_bytes refl (four c) eight)))

-- no number below this takes that width
abbrev floor : HeadWidth → ℕ
floor no_bytes = 0
floor one_byte = 24
floor two_bytes = 2 ^ 8
floor four_bytes = 2 ^ 16
floor eight_bytes = 2 ^ 32

floor-least-le : (n : ℕ) → floor (least n) ≤ n
floor-least-le n = least-cases (λ w. floor w ≤ n) n (omega arith) (λ a. a) (λ b. b) (λ c. c) (λ d. d)

-- after one first byte
behind_less : (first k n m : ℕ) (x y : List ℕ) → n % 256 ^ k < m % 256 ^ k → lex (first ∷ (bytes_high_first k n ++ x)) (first ∷ (bytes_high_first k m ++ y)) ≡ Less
behind_less first k n m x y less = lex-same first first (bytes_high_first k n ++ x) (bytes_high_first k m ++ y) refl ∙ bytes_less k n m x y less

-- wider heads of one major type begin with a greater byte
heads_less : (major : ℕ) (w z : HeadWidth) (n m : ℕ) (x y : List ℕ) → floor w ≤ n → n < limit w → floor z ≤ m → m < limit z → n < m → lex (head major w n ++ x) (head major z m ++ y) ≡ Less
heads_less major no_bytes no_bytes n m x y a b c d less = lex-less (32 * major + n) (32 * major + m) x y (omega arith)
heads_less major one_byte one_byte n m x y a b c d less = behind_less (32 * major + 24) 1 n m x y (omega arith)
heads_less major two_bytes two_bytes n m x y a b c d less = behind_less (32 * major + 25) 2 n m x y (omega arith)
heads_less major four_bytes four_bytes n m x y a b c d less = behind_less (32 * major + 26) 4 n m x y (omega arith)
heads_less major eight_bytes eight_bytes n m x y a b c d less = behind_less (32 * major + 27) 8 n m x y (omega arith)
heads_less major w z n m x y a b c d less = lex-less (32 * major + info w n) (32 * major + info z m) (behind w n ++ x) (behind z m ++ y) (omega arith)

pub shorts_less : (major n m : ℕ) (x y : List ℕ) → n < 2 ^ 64 → m < 2 ^ 64 → n < m → lex (short major n ++ x) (short major m ++ y) ≡ Less
shorts_less major n m x y fits fits' less =
    heads_less major (least n) (least m) n m x y (floor-least-le n) (lt-limit-least n fits) (floor-least-le m) (lt-limit-least m fits') less
