-- Keys of one length by the numbers that their bytes are.
use Rattle.std.proofs.Common.{◌≡◌, ◌≢◌, ℕ, ◌+◌, ◌-◌, ◌≤◌, List, length, take, drop, refl, sym, ap, ap₂, ◌∙◌, subst, inl, inr, arith}
use Rattle.std.proofs.Common.{Ordering, Less, Equal, nat_cmp, length-take, length-drop, lt-ltb, le-ltb, eq-eqb, ne_eqb}
use Rattle.std.specs.Prelude.{nat_lt, MatchBool}
use Rattle.std.proofs.lemmas.Bool.{cases_order}
use Rattle.cbor_model.specs.Order.{lex}
use Rattle.cbor_io.specs.Compare.{big_endian}
use Rattle.cbor_io.proofs.CompareWords.{words, settled, equal_on, last_word, AreBytes}

less_or_not : (m n : ℕ) → MatchBool (nat_lt m n) (nat_cmp m n ≡ Less) (nat_cmp m n ≢ Less)
less_or_not m n = elim (cases_order m n) [
  | inl e ↦ rw (le-ltb m n (omega arith), eq-eqb m n e) (λ less. cc)
  | inr s ↦ elim s [
    | inl l ↦ rw (lt-ltb m n l) refl
    | inr l ↦ rw (le-ltb m n (omega arith), ne_eqb m n (λ e. omega arith)) (λ less. cc)
  ]
]

-- the test of two numbers says what their order does
by_order : (m n : ℕ) (o : Ordering) → nat_cmp m n ≡ o → MatchBool (nat_lt m n) (o ≡ Less) (o ≢ Less)
by_order m n o is = subst (λ (o : Ordering). MatchBool (nat_lt m n) (o ≡ Less) (o ≢ Less)) is (less_or_not m n)

-- whether the key ys is above xs, by their numbers
pub above_by_words : (xs ys : List ℕ) (m n : ℕ) → length xs ≡ length ys → AreBytes xs → AreBytes ys
    → m ≡ big_endian xs → n ≡ big_endian ys
    → MatchBool (nat_lt m n) (lex xs ys ≡ Less) (lex xs ys ≢ Less)
above_by_words xs ys m n long X Y m_is n_is =
    by_order m n (lex xs ys) (ap₂ nat_cmp m_is n_is ∙ words xs ys long X Y)

-- ---- word after word

tied : (m n : ℕ) → m ≡ n → nat_cmp m n ≡ Equal
tied m n e = rw (le-ltb m n (omega arith), eq-eqb m n e) refl

untied : (m n : ℕ) → m ≢ n → nat_cmp m n ≢ Equal
untied m n un = elim (cases_order m n) [
  | inl e ↦ absurd (un e)
  | inr s ↦ elim s [
    | inl l ↦ rw (lt-ltb m n l) (λ equal. cc)
    | inr l ↦ rw (le-ltb m n (omega arith), ne_eqb m n (λ e. omega arith)) (λ equal. cc)
  ]
]

-- two words after a front that is the same, and their numbers
pub record WordsAt (at : ℕ) (xs ys : List ℕ) (m n : ℕ) : Type 0 where
  pub same : length xs ≡ length ys
  pub front : take at xs ≡ take at ys
  pub left : m ≡ big_endian (take 8 (drop at xs))
  pub right : n ≡ big_endian (take 8 (drop at ys))
  pub left_bytes : AreBytes (take 8 (drop at xs))
  pub right_bytes : AreBytes (take 8 (drop at ys))

module _ (at : ℕ) (xs ys : List ℕ) (m n : ℕ) (w : WordsAt at xs ys m n) where
  long : length (take 8 (drop at xs)) ≡ length (take 8 (drop at ys))
  long = omega (arith, length-take 8 (drop at xs), length-take 8 (drop at ys), length-drop at xs, length-drop at ys, w.same)

  numbers : nat_cmp m n ≡ lex (take 8 (drop at xs)) (take 8 (drop at ys))
  numbers = ap₂ nat_cmp w.left w.right ∙ words (take 8 (drop at xs)) (take 8 (drop at ys)) long w.left_bytes w.right_bytes

  pub first_unequal : m ≢ n → MatchBool (nat_lt m n) (lex xs ys ≡ Less) (lex xs ys ≢ Less)
  first_unequal un = by_order m n (lex xs ys) (settled at xs ys (nat_cmp m n) w.same w.front numbers (untied m n un))

  equal_words : m ≡ n → take (at + 8) xs ≡ take (at + 8) ys
  equal_words e = equal_on at xs ys w.same w.front (sym numbers ∙ tied m n e)

-- two words that are the same, `wide` bytes each, lengthen the front
pub longer_front : (at wide to : ℕ) (xs ys : List ℕ) (m n : ℕ) → wide ≡ 8 → to ≡ at + 8 → length xs ≡ length ys → take at xs ≡ take at ys
    → m ≡ big_endian (take wide (drop at xs)) → n ≡ big_endian (take wide (drop at ys)) → AreBytes (take wide (drop at xs)) → AreBytes (take wide (drop at ys))
    → m ≡ n → take to xs ≡ take to ys
longer_front at wide to xs ys m n is_8 is_to same front m_is n_is X Y e =
    let w : WordsAt at xs ys m n = record {
      same = same;
      front = front;
      left = rw is_8 at m_is;
      right = rw is_8 at n_is;
      left_bytes = rw is_8 at X;
      right_bytes = rw is_8 at Y;
    } in
    rw is_to (equal_words at xs ys m n w e)

-- the last word, where all before `at`, which isn't before its beginning, is the same
pub last_above : (last at : ℕ) (xs ys us vs : List ℕ) (m n : ℕ) → length xs ≡ length ys → us ≡ drop last xs → vs ≡ drop last ys
    → last ≤ at → take at xs ≡ take at ys → AreBytes us → AreBytes vs → m ≡ big_endian us → n ≡ big_endian vs
    → MatchBool (nat_lt m n) (lex xs ys ≡ Less) (lex xs ys ≢ Less)
last_above last at xs ys us vs m n same us_are vs_are le front U V m_is n_is =
    let long : length us ≡ length vs = ap length us_are ∙ length-drop last xs ∙ ap (λ (n : ℕ). n - last) same ∙ sym (length-drop last ys) ∙ sym (ap length vs_are) in
    by_order m n (lex xs ys) (ap₂ nat_cmp m_is n_is ∙ words us vs long U V ∙ ap₂ lex us_are vs_are ∙ last_word last at xs ys same le front)
