-- Equal lists are equal values, and the order of values is total.
use Rattle.std.proofs.Common.{◌≡◌, ℕ, pred, ◌<◌, Bool, true, false, List, [], ◌∷◌, ◌++◌, length, pos, negsuc, refl, sym, ap, ap₂, ◌∙◌, append_assoc, arith}
use Rattle.std.specs.Cmp.{IsTotalOrder, on_total}
use Rattle.std.specs.Cmp.Lexicographic.{nat_list_cmp_total}
use Rattle.std.proofs.lemmas.List.{append-nil}
use Rattle.std.proofs.lemmas.Map.Lookups.{CmpEqualImpliesEq, exact_bytes}
use Rattle.cbor_model.specs.Raw.{FloatWidth, half, single, double}
use Rattle.cbor_model.specs.Plain.{Val, null, bool, integer, float, bytes, text, array, map, tag, Vals, no_vals, val, Pairs, no_pairs, pair, count, pair_count}
use Rattle.cbor_model.specs.Order.{flat, flat_all, flat_pairs, major_type, bool_code, float_code, body}
use Rattle.cbor_model.specs.Order.{val_cmp}

pub flat-is : (v : Val) → flat v ≡ major_type v ∷ body v
unfolding flat
flat-is v = refl

pub bool_code-lt : (b : Bool) → bool_code b < 22
bool_code-lt false = omega arith
bool_code-lt true = omega arith

pub lt-float_code : (w : FloatWidth) → 22 < float_code w
lt-float_code half = omega arith
lt-float_code single = omega arith
lt-float_code double = omega arith

same_bool : (b c : Bool) → bool_code b ≡ bool_code c → b ≡ c
same_bool false false e = refl
same_bool false true e = absurd (omega arith)
same_bool true false e = absurd (omega arith)
same_bool true true e = refl

same_width : (w z : FloatWidth) → float_code w ≡ float_code z → w ≡ z
same_width half half e = refl
same_width half single e = absurd (omega arith)
same_width half double e = absurd (omega arith)
same_width single half e = absurd (omega arith)
same_width single single e = refl
same_width single double e = absurd (omega arith)
same_width double half e = absurd (omega arith)
same_width double single e = absurd (omega arith)
same_width double double e = refl

-- ---- lists that begin alike

abbrev hd : List ℕ → ℕ
hd [] = 0
hd (x ∷ xs) = x

abbrev tl : List ℕ → List ℕ
tl [] = []
tl (x ∷ xs) = xs

same_front : (b c x y : List ℕ) → length b ≡ length c → b ++ x ≡ c ++ y → (b ≡ c) × (x ≡ y)
same_front [] [] x y e s = (refl, s)
same_front [] (m ∷ c) x y e s = absurd (omega arith)
same_front (n ∷ b) [] x y e s = absurd (omega arith)
same_front (n ∷ b) (m ∷ c) x y e s =
    let rest = same_front b c x y (omega arith) (ap tl s) in
    (ap₂ (λ (k : ℕ) (l : List ℕ). k ∷ l) (ap hd s) rest.0, rest.1)

-- a value's list and what follows it, where the first number stands apart
opened : (a b : Val) (x y : List ℕ) → flat a ++ x ≡ flat b ++ y → (major_type a ∷ body a) ++ x ≡ (major_type b ∷ body b) ++ y
opened a b x y s = ap (λ (l : List ℕ). l ++ x) (sym (flat-is a)) ∙ s ∙ ap (λ (l : List ℕ). l ++ y) (flat-is b)

split : (a b : Val) (p q x y : List ℕ) → (flat a ++ p) ++ x ≡ (flat b ++ q) ++ y → (major_type a ∷ body a) ++ (p ++ x) ≡ (major_type b ∷ body b) ++ (q ++ y)
split a b p q x y s = opened a b (p ++ x) (q ++ y) (sym (append_assoc (flat a) p x) ∙ s ∙ append_assoc (flat b) q y)

mutual
  unfolding flat

  same_body : (a b : Val) (x y : List ℕ) → major_type a ≡ major_type b → body a ++ x ≡ body b ++ y → (a ≡ b) × (x ≡ y)
  same_body (integer (pos n)) (integer (pos m)) x y e s = (ap (λ (k : ℕ). integer (pos k)) (ap hd s), ap tl s)
  same_body (integer (negsuc n)) (integer (negsuc m)) x y e s = (ap (λ (k : ℕ). integer (negsuc k)) (ap hd s), ap tl s)
  same_body (bytes b) (bytes c) x y e s = let r = same_front b c x y (ap hd s) (ap tl s) in (ap bytes r.0, r.1)
  same_body (text b) (text c) x y e s = let r = same_front b c x y (ap hd s) (ap tl s) in (ap text r.0, r.1)
  same_body (array vs) (array ws) x y e s = let r = same_all vs ws x y (ap hd s) (ap tl s) in (ap array r.0, r.1)
  same_body (map ps) (map qs) x y e s = let r = same_pairs ps qs x y (ap hd s) (ap tl s) in (ap map r.0, r.1)
  same_body (tag n v) (tag m w) x y e s =
      let t = opened v w x y (ap tl s) in
      let r = same_body v w x y (ap hd t) (ap tl t) in
      (ap₂ tag (ap hd s) r.0, r.1)
  same_body null null x y e s = (refl, ap tl s)
  same_body (bool b) (bool c) x y e s = (ap bool (same_bool b c (ap hd s)), ap tl s)
  same_body (float w n) (float z m) x y e s = (ap₂ float (same_width w z (ap hd s)) (ap hd (ap tl s)), ap tl (ap tl s))
  same_body null (bool c) x y e s = absurd (omega (arith, ap hd s, bool_code-lt c))
  same_body null (float z m) x y e s = absurd (omega (arith, ap hd s, lt-float_code z))
  same_body (bool b) null x y e s = absurd (omega (arith, ap hd s, bool_code-lt b))
  same_body (bool b) (float z m) x y e s = absurd (omega (arith, ap hd s, bool_code-lt b, lt-float_code z))
  same_body (float w n) null x y e s = absurd (omega (arith, ap hd s, lt-float_code w))
  same_body (float w n) (bool c) x y e s = absurd (omega (arith, ap hd s, bool_code-lt c, lt-float_code w))
  same_body (integer (pos n)) _ x y e s = absurd (omega arith)
  same_body (integer (negsuc n)) _ x y e s = absurd (omega arith)
  same_body _ (integer (pos n)) x y e s = absurd (omega arith)
  same_body _ (integer (negsuc n)) x y e s = absurd (omega arith)
  same_body _ _ x y e s = absurd (omega arith)

  same_all : (vs ws : Vals) (x y : List ℕ) → count vs ≡ count ws → flat_all vs ++ x ≡ flat_all ws ++ y → (vs ≡ ws) × (x ≡ y)
  same_all no_vals no_vals x y e s = (refl, s)
  same_all no_vals (val w ws) x y e s = absurd (omega arith)
  same_all (val v vs) no_vals x y e s = absurd (omega arith)
  same_all (val v vs) (val w ws) x y e s =
      let t = split v w (flat_all vs) (flat_all ws) x y s in
      let r = same_body v w (flat_all vs ++ x) (flat_all ws ++ y) (ap hd t) (ap tl t) in
      let q = same_all vs ws x y (ap pred e) r.1 in
      (ap₂ val r.0 q.0, q.1)

  same_pairs : (ps qs : Pairs) (x y : List ℕ) → pair_count ps ≡ pair_count qs → flat_pairs ps ++ x ≡ flat_pairs qs ++ y → (ps ≡ qs) × (x ≡ y)
  same_pairs no_pairs no_pairs x y e s = (refl, s)
  same_pairs no_pairs (pair k v qs) x y e s = absurd (omega arith)
  same_pairs (pair k v ps) no_pairs x y e s = absurd (omega arith)
  same_pairs (pair k v ps) (pair l w qs) x y e s =
      let one = split k l (flat v ++ flat_pairs ps) (flat w ++ flat_pairs qs) x y s in
      let r = same_body k l ((flat v ++ flat_pairs ps) ++ x) ((flat w ++ flat_pairs qs) ++ y) (ap hd one) (ap tl one) in
      let two = split v w (flat_pairs ps) (flat_pairs qs) x y r.1 in
      let t = same_body v w (flat_pairs ps ++ x) (flat_pairs qs ++ y) (ap hd two) (ap tl two) in
      let q = same_pairs ps qs x y (ap pred e) t.1 in
      (λ i. pair (r.0 i) (t.0 i) (q.0 i), q.1)

-- values whose lists begin alike are equal, and so is what follows
pub same_beginning : (a b : Val) (x y : List ℕ) → flat a ++ x ≡ flat b ++ y → (a ≡ b) × (x ≡ y)
same_beginning a b x y s = let t = opened a b x y s in same_body a b x y (ap hd t) (ap tl t)

pub one_flat : (a b : Val) → flat a ≡ flat b → a ≡ b
one_flat a b s = (same_beginning a b [] [] (append-nil (flat a) ∙ s ∙ sym (append-nil (flat b)))).0

-- ---- the order

pub val_cmp_total : IsTotalOrder val_cmp
val_cmp_total = on_total flat nat_list_cmp_total

-- values that compare alike are one
pub exact_vals : CmpEqualImpliesEq val_cmp
exact_vals a b same = one_flat a b (exact_bytes (flat a) (flat b) same)
