-- No value's list begins another's of the same shape, so lists joined end to end compare part by part.
use Rattle.std.proofs.Common.{◌≡◌, ℕ, pred, ◌<◌, Bool, List, [], ◌∷◌, ◌++◌, length, pos, negsuc, nat_cmp, Ordering, Less, Equal, Greater, refl, sym, ap, ◌∙◌, append_assoc, arith}
use Rattle.std.proofs.lemmas.Cmp.{ranked, tied_itself, nat_cmp_total}
use Rattle.std.specs.Ordering.{ordering_then, MatchOrdering}
use Rattle.cbor_model.specs.Raw.{FloatWidth}
use Rattle.cbor_model.specs.Plain.{Val, null, bool, integer, float, bytes, text, array, map, tag, Vals, no_vals, val, Pairs, no_pairs, pair, count, pair_count}
use Rattle.cbor_model.specs.Order.{lex, flat, flat_all, flat_pairs, major_type, body, bool_code, float_code, val_cmp}
use Rattle.cbor_model.proofs.order.Same.{flat-is, bool_code-lt, lt-float_code}

-- whatever follows, the first difference within p and q decides, and only else what follows
abbrev pub Apart : List ℕ → List ℕ → Type 0
Apart p q = (x y : List ℕ) → lex (p ++ x) (q ++ y) ≡ ordering_then (lex p q) (lex x y)

pub then_assoc : (a b c : Ordering) → ordering_then (ordering_then a b) c ≡ ordering_then a (ordering_then b c)
then_assoc Less b c = refl
then_assoc Equal b c = refl
then_assoc Greater b c = refl

pub Apart-nil : Apart [] []
Apart-nil x y = refl

Apart-cons-by : (o : Ordering) (n m : ℕ) (p q : List ℕ) → MatchOrdering o (n < m) (n ≡ m) (m < n) → (n ≡ m → Apart p q) → (x y : List ℕ) → ordering_then o (lex (p ++ x) (q ++ y)) ≡ ordering_then (ordering_then o (lex p q)) (lex x y)
Apart-cons-by Less n m p q is inside x y = refl
Apart-cons-by Equal n m p q is inside x y = inside is x y
Apart-cons-by Greater n m p q is inside x y = refl

pub Apart-cons : (n m : ℕ) (p q : List ℕ) → (n ≡ m → Apart p q) → Apart (n ∷ p) (m ∷ q)
Apart-cons n m p q inside x y = Apart-cons-by (nat_cmp n m) n m p q (ranked n m (nat_cmp n m) refl) inside x y

pub Apart-append : (p q p' q' : List ℕ) → Apart p q → Apart p' q' → Apart (p ++ p') (q ++ q')
Apart-append p q p' q' a b x y =
    ap (λ (l : List ℕ). lex l ((q ++ q') ++ y)) (append_assoc p p' x) ∙ ap (lex (p ++ (p' ++ x))) (append_assoc q q' y)
    ∙ a (p' ++ x) (q' ++ y) ∙ ap (ordering_then (lex p q)) (b x y) ∙ sym (then_assoc (lex p q) (lex p' q') (lex x y)) ∙ ap (λ (o : Ordering). ordering_then o (lex x y)) (sym (a p' q'))

pub Apart-same_len : (p q : List ℕ) → length p ≡ length q → Apart p q
Apart-same_len [] [] e = Apart-nil
Apart-same_len [] (m ∷ q) e = absurd (omega arith)
Apart-same_len (n ∷ p) [] e = absurd (omega arith)
Apart-same_len (n ∷ p) (m ∷ q) e = Apart-cons n m p q (λ same. Apart-same_len p q (omega arith))

-- the simple values and floats
number_apart : (n m : ℕ) → Apart (n ∷ []) (m ∷ [])
number_apart n m = Apart-cons n m [] [] (λ same. Apart-nil)

code-low : (b : Bool) (w : FloatWidth) → bool_code b ≡ float_code w → ⊥
code-low b w e = omega (arith, bool_code-lt b, lt-float_code w)

null-low : (w : FloatWidth) → 22 ≡ float_code w → ⊥
null-low w e = omega (arith, lt-float_code w)

mutual
  unfolding flat

  pub bodies_apart : (a b : Val) → major_type a ≡ major_type b → Apart (body a) (body b)
  bodies_apart (integer (pos n)) (integer (pos m)) e = number_apart n m
  bodies_apart (integer (negsuc n)) (integer (negsuc m)) e = number_apart n m
  bodies_apart (bytes b) (bytes c) e = Apart-cons (length b) (length c) b c (Apart-same_len b c)
  bodies_apart (text b) (text c) e = Apart-cons (length b) (length c) b c (Apart-same_len b c)
  bodies_apart (array vs) (array ws) e = Apart-cons (count vs) (count ws) (flat_all vs) (flat_all ws) (all_apart vs ws)
  bodies_apart (map ps) (map qs) e = Apart-cons (pair_count ps) (pair_count qs) (flat_pairs ps) (flat_pairs qs) (pairs_apart ps qs)
  bodies_apart (tag n v) (tag m w) e = Apart-cons n m (flat v) (flat w) (λ same. Apart-cons (major_type v) (major_type w) (body v) (body w) (bodies_apart v w))
  bodies_apart null null e = number_apart 22 22
  bodies_apart null (bool c) e = (number_apart 22 (bool_code c))
  bodies_apart null (float w bits) e = (Apart-cons 22 (float_code w) [] (bits ∷ []) (λ same. absurd (null-low w same)))
  bodies_apart (bool b) null e = (number_apart (bool_code b) 22)
  bodies_apart (bool b) (bool c) e = (number_apart (bool_code b) (bool_code c))
  bodies_apart (bool b) (float w bits) e = (Apart-cons (bool_code b) (float_code w) [] (bits ∷ []) (λ same. absurd (code-low b w same)))
  bodies_apart (float w bits) null e = (Apart-cons (float_code w) 22 (bits ∷ []) [] (λ same. absurd (null-low w (sym same))))
  bodies_apart (float w bits) (bool c) e = (Apart-cons (float_code w) (bool_code c) (bits ∷ []) [] (λ same. absurd (code-low c w (sym same))))
  bodies_apart (float w bits) (float z cs) e = (Apart-cons (float_code w) (float_code z) (bits ∷ []) (cs ∷ []) (λ same. number_apart bits cs))
  bodies_apart (integer (pos n)) _ e = absurd (omega arith)
  bodies_apart (integer (negsuc n)) _ e = absurd (omega arith)
  bodies_apart _ (integer (pos n)) e = absurd (omega arith)
  bodies_apart _ (integer (negsuc n)) e = absurd (omega arith)
  bodies_apart _ _ e = absurd (omega arith)

  pub all_apart : (vs ws : Vals) → count vs ≡ count ws → Apart (flat_all vs) (flat_all ws)
  all_apart no_vals no_vals e = Apart-nil
  all_apart no_vals (val w ws) e = absurd (omega arith)
  all_apart (val v vs) no_vals e = absurd (omega arith)
  all_apart (val v vs) (val w ws) e =
      Apart-append (flat v) (flat w) (flat_all vs) (flat_all ws) (Apart-cons (major_type v) (major_type w) (body v) (body w) (bodies_apart v w)) (all_apart vs ws (ap pred e))

  pub pairs_apart : (ps qs : Pairs) → pair_count ps ≡ pair_count qs → Apart (flat_pairs ps) (flat_pairs qs)
  pairs_apart no_pairs no_pairs e = Apart-nil
  pairs_apart no_pairs (pair k v qs) e = absurd (omega arith)
  pairs_apart (pair k v ps) no_pairs e = absurd (omega arith)
  pairs_apart (pair k v ps) (pair l w qs) e =
      Apart-append (flat k) (flat l) (flat v ++ flat_pairs ps) (flat w ++ flat_pairs qs) (Apart-cons (major_type k) (major_type l) (body k) (body l) (bodies_apart k l))
      (Apart-append (flat v) (flat w) (flat_pairs ps) (flat_pairs qs) (Apart-cons (major_type v) (major_type w) (body v) (body w) (bodies_apart v w)) (pairs_apart ps qs (ap pred e)))

pub flats_apart : (a b : Val) → Apart (flat a) (flat b)
flats_apart a b = rw (flat-is a, flat-is b) (Apart-cons (major_type a) (major_type b) (body a) (body b) (bodies_apart a b))

-- values whose lists begin with other numbers
pub majors_differ : (a b : Val) → (major_type a ≡ major_type b → ⊥) → nat_cmp (major_type a) (major_type b) ≡ val_cmp a b
majors_differ a b differ = rw (flat-is a, flat-is b) (by_order (nat_cmp (major_type a) (major_type b)) (ranked (major_type a) (major_type b) (nat_cmp (major_type a) (major_type b)) refl))
  where
    by_order : (o : Ordering) → MatchOrdering o (major_type a < major_type b) (major_type a ≡ major_type b) (major_type b < major_type a) → o ≡ ordering_then o (lex (body a) (body b))
    by_order Less is = refl
    by_order Equal is = absurd (differ is)
    by_order Greater is = refl

pub majors_same : (a b : Val) → major_type a ≡ major_type b → val_cmp a b ≡ lex (body a) (body b)
majors_same a b same = rw (flat-is a, flat-is b) (ap (λ (o : Ordering). ordering_then o (lex (body a) (body b))) (ap (λ (k : ℕ). nat_cmp k (major_type b)) same ∙ tied_itself nat_cmp_total (major_type b)))
