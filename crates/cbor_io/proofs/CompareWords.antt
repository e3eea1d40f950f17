-- The order of byte strings by their words.
use Rattle.std.proofs.Common.{◌≡◌, ◌≢◌, ℕ, zero, suc, ◌+◌, ◌*◌, ◌<◌, ◌≤◌, min, List, [], ◌∷◌, ◌++◌}
use Rattle.std.proofs.Common.{length, get_or, take, drop, length-take, length-drop, take-take}
use Rattle.std.proofs.Common.{take-add, refl, sym, ap, ap₂, ◌∙◌, subst, inl, inr, arith}
use Rattle.std.proofs.Common.{Ordering, Less, Equal, Greater, nat_cmp, is_eq, true, false}
use Rattle.std.proofs.Common.{true≢false, lt-ltb, le-ltb, eq-eqb, ne_eqb}
use Rattle.std.proofs.lemmas.Bool.{cases_order}
use Rattle.std.proofs.lemmas.Cmp.{ranked, nat_list_cmp_total, tied_itself}
use Rattle.std.specs.Ordering.{ordering_then, is_ne, MatchOrdering}
use Rattle.std.specs.Cmp.Lexicographic.{slice_cmp}
use Rattle.cbor_io.specs.Compare.{big_endian, big_endian_after}

abbrev pub lex : List ℕ → List ℕ → Ordering
lex = slice_cmp nat_cmp

abbrev pub AreBytes : List ℕ → Type 0
AreBytes xs = (i : ℕ) → get_or xs i 0 < 256

-- ---- one after another

then_then : (o p q : Ordering)
    → ordering_then (ordering_then o p) q ≡ ordering_then o (ordering_then p q)
then_then Less p q = refl
then_then Equal p q = refl
then_then Greater p q = refl

then_equal : (o : Ordering) → o ≡ ordering_then o Equal
then_equal Less = refl
then_equal Equal = refl
then_equal Greater = refl

decided : (o p : Ordering) → o ≢ Equal → o ≡ ordering_then o p
decided Less p n = refl
decided Equal p n = absurd (n refl)
decided Greater p n = refl

both_equal : (o p : Ordering) → ordering_then o p ≡ Equal → (o ≡ Equal) × (p ≡ Equal)
both_equal Less p e = absurd (true≢false (sym (ap is_eq e)))
both_equal Equal p e = (refl, e)
both_equal Greater p e = absurd (true≢false (sym (ap is_eq e)))

pub unequal : (o : Ordering) → is_ne o ≡ true → o ≢ Equal
unequal o e q = true≢false (sym e ∙ ap is_ne q)

pub equal : (o : Ordering) → is_ne o ≡ false → o ≡ Equal
equal Less e = absurd (true≢false e)
equal Equal e = refl
equal Greater e = absurd (true≢false e)

-- ---- numbers

is_less : (a b : ℕ) → a < b → nat_cmp a b ≡ Less
is_less a b l = rw (lt-ltb a b l) refl

is_equal : (a b : ℕ) → a ≡ b → nat_cmp a b ≡ Equal
is_equal a b e = rw (le-ltb a b (omega arith), eq-eqb a b e) refl

is_greater : (a b : ℕ) → b < a → nat_cmp a b ≡ Greater
is_greater a b l = rw (le-ltb a b (omega arith), ne_eqb a b (λ e. omega arith)) refl

-- a digit more
one_more : (p q x y : ℕ) → x < 256 → y < 256
    → nat_cmp (p * 256 + x) (q * 256 + y) ≡ ordering_then (nat_cmp p q) (nat_cmp x y)
one_more p q x y X Y =
    let less = is_less (p * 256 + x) (q * 256 + y) in
    let tied = is_equal (p * 256 + x) (q * 256 + y) in
    let more = is_greater (p * 256 + x) (q * 256 + y) in
    elim (cases_order p q) [
      | inl e ↦ elim (cases_order x y) [
        | inl d ↦ rw (is_equal p q e, is_equal x y d) (tied (omega arith))
        | inr s ↦ elim s [
          | inl l ↦ rw (is_equal p q e, is_less x y l) (less (omega arith))
          | inr l ↦ rw (is_equal p q e, is_greater x y l) (more (omega arith))
        ]
      ]
      | inr s ↦ elim s [
        | inl l ↦ rw (is_less p q l) (less (omega arith))
        | inr l ↦ rw (is_greater p q l) (more (omega arith))
      ]
    ]

numbers : (p q : ℕ) (xs ys : List ℕ) → length xs ≡ length ys → AreBytes xs → AreBytes ys
    → nat_cmp (big_endian_after p xs) (big_endian_after q ys)
    ≡ ordering_then (nat_cmp p q) (lex xs ys)
numbers p q [] [] l X Y = then_equal _
numbers p q [] (y ∷ ys) l X Y = absurd (omega arith)
numbers p q (x ∷ xs) [] l X Y = absurd (omega arith)
numbers p q (x ∷ xs) (y ∷ ys) l X Y =
    numbers (p * 256 + x) (q * 256 + y) xs ys (omega arith) (λ i. X (suc i)) (λ i. Y (suc i))
    ∙ ap (λ o. ordering_then o (lex xs ys)) (one_more p q x y (X 0) (Y 0))
    ∙ then_then (nat_cmp p q) (nat_cmp x y) (lex xs ys)

-- ---- lists

at_front : (n : ℕ) (xs ys : List ℕ) → length xs ≡ length ys
    → lex xs ys ≡ ordering_then (lex (take n xs) (take n ys)) (lex (drop n xs) (drop n ys))
at_front zero xs ys l = refl
at_front (suc n) [] [] l = refl
at_front (suc n) [] (y ∷ ys) l = absurd (omega arith)
at_front (suc n) (x ∷ xs) [] l = absurd (omega arith)
at_front (suc n) (x ∷ xs) (y ∷ ys) l =
    ap (ordering_then (nat_cmp x y)) (at_front n xs ys (omega arith))
    ∙ sym (then_then (nat_cmp x y) (lex (take n xs) (take n ys)) (lex (drop n xs) (drop n ys)))

same_number : (x y : ℕ) → nat_cmp x y ≡ Equal → x ≡ y
same_number x y e = subst (λ o. MatchOrdering o (x < y) (x ≡ y) (y < x)) e (ranked x y _ refl)

same : (xs ys : List ℕ) → length xs ≡ length ys → lex xs ys ≡ Equal → xs ≡ ys
same [] [] l e = refl
same [] (y ∷ ys) l e = absurd (omega arith)
same (x ∷ xs) [] l e = absurd (omega arith)
same (x ∷ xs) (y ∷ ys) l e =
    let both = both_equal (nat_cmp x y) (lex xs ys) e in
    ap₂ (λ z zs. z ∷ zs) (same_number x y both.0) (same xs ys (omega arith) both.1)

after_front : (n : ℕ) (xs ys : List ℕ) → length xs ≡ length ys → take n xs ≡ take n ys
    → lex xs ys ≡ lex (drop n xs) (drop n ys)
after_front n xs ys l e =
    at_front n xs ys l
    ∙ ap (λ o. ordering_then o (lex (drop n xs) (drop n ys)))
    (ap (λ zs. lex zs (take n ys)) e ∙ tied_itself nat_list_cmp_total (take n ys))

pub words : (xs ys : List ℕ) → length xs ≡ length ys → AreBytes xs → AreBytes ys
    → nat_cmp (big_endian xs) (big_endian ys) ≡ lex xs ys
words = numbers 0 0

-- ---- strings that are equal up to n, by what is after it

room_behind : (n : ℕ) (xs ys : List ℕ) → length xs ≡ length ys
    → length (drop n xs) ≡ length (drop n ys)
room_behind n xs ys l = omega (arith, length-drop n xs, length-drop n ys)

pub settled : (n : ℕ) (xs ys : List ℕ) (o : Ordering) → length xs ≡ length ys
    → take n xs ≡ take n ys
    → o ≡ lex (take 8 (drop n xs)) (take 8 (drop n ys)) → o ≢ Equal → o ≡ lex xs ys
settled n xs ys o l front e unequal =
    let rest = lex (drop 8 (drop n xs)) (drop 8 (drop n ys)) in
    decided o rest unequal ∙ ap (λ p. ordering_then p rest) e
    ∙ sym (at_front 8 (drop n xs) (drop n ys) (room_behind n xs ys l))
    ∙ sym (after_front n xs ys l front)

pub equal_on : (n : ℕ) (xs ys : List ℕ) → length xs ≡ length ys → take n xs ≡ take n ys
    → lex (take 8 (drop n xs)) (take 8 (drop n ys)) ≡ Equal → take (n + 8) xs ≡ take (n + 8) ys
equal_on n xs ys l front e =
    let long : length (take 8 (drop n xs)) ≡ length (take 8 (drop n ys)) =
    length-take 8 (drop n xs) ∙ ap (min 8) (room_behind n xs ys l)
    ∙ sym (length-take 8 (drop n ys)) in
    take-add n 8 xs ∙ ap₂ (λ us vs. us ++ vs) front (same _ _ long e) ∙ sym (take-add n 8 ys)

-- m is not past n
pub last_word : (m n : ℕ) (xs ys : List ℕ) → length xs ≡ length ys → m ≤ n
    → take n xs ≡ take n ys → lex (drop m xs) (drop m ys) ≡ lex xs ys
last_word m n xs ys l le e =
    sym (after_front m xs ys l (sym (take-take m n xs le) ∙ ap (take m) e ∙ take-take m n ys le))
