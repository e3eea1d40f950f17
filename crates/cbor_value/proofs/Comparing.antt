-- Comparing two lists of values, an element at a time.
use Rattle.std.proofs.Common.{◌≡◌, ℕ, suc, ◌+◌, ◌<◌, ◌≤◌, List, ◌∷◌, ◌++◌, length, drop, get_or}
use Rattle.std.proofs.Common.{nat_cmp, Ordering, Less, Equal, Greater, pos, negsuc, refl, sym, ap}
use Rattle.std.proofs.Common.{ap₂, ◌∙◌, arith, rules, add-one, drop-cons}
use Rattle.std.proofs.lemmas.List.{drop_all}
use Rattle.std.proofs.lemmas.Cmp.{ranked}
use Rattle.std.specs.Ordering.{ordering_then, MatchOrdering, is_eq}
use Rattle.std.specs.Prelude.{nat_eq, slice_index}
use Rattle.std.specs.Cmp.Lexicographic.{pointwise, texts_ties}
use Rattle.cbor_model.specs.Plain as plain
use Rattle.cbor_model.specs.Plain.{Val}
use Rattle.cbor_model.specs.Order.{lex, flat, flat_all, flat_pairs, major_type, body, bool_code}
use Rattle.cbor_model.specs.Order.{float_code, val_cmp}
use Rattle.cbor_model.proofs.facts.Order.{majors_same, bool_code-lt, lt-float_code, flats_apart}
use Rattle.cbor_model.proofs.facts.Order.{then_assoc}
use Rattle.cbor_value.specs.declared.Map.{Map as MapType, out-Map}
use Rattle.cbor_value.specs.declared.Value.{Value, the_lemmas}
use Rattle.cbor_value.specs.declared.Value.TheViews as variants
use Rattle.cbor_value.specs.View.{view, views, float_view, pair_views, pair_order}
use Rattle.cbor_value.specs.declared.Float.{Float}
use Rattle.cbor_value.specs.declared.Float.TheVariants.{Half, Single, Double}
use Rattle.cbor_value.proofs.Views.{count_views, pair_count_pair_views}

pub stays : (o x : Ordering) → (o ≡ Equal → ⊥) → o ≡ ordering_then o x
stays Less x differs = refl
stays Equal x differs = absurd (differs refl)
stays Greater x differs = refl

pub same_len : (n m : ℕ) → nat_cmp n m ≡ Equal → n ≡ m
same_len n m e = go (nat_cmp n m) (ranked n m (nat_cmp n m) refl) e
  where
    go : (o : Ordering) → MatchOrdering o (n < m) (n ≡ m) (m < n) → o ≡ Equal → n ≡ m
    go Less is e = absurd cc
    go Equal is e = is
    go Greater is e = absurd cc

abbrev pub rest_order : List Value → List Value → Ordering
rest_order vs ws = lex (flat_all (views vs)) (flat_all (views ws))

pub first_decides : (v w : Value) (vs ws : List Value)
    → rest_order (v ∷ vs) (w ∷ ws) ≡ ordering_then (val_cmp (view v) (view w)) (rest_order vs ws)
unfolding flat
first_decides v w vs ws = flats_apart (view v) (view w) (flat_all (views vs)) (flat_all (views ws))

-- one turn
pub turn : (a b : List Value) (i : ℕ) (v w : Value) → i < length a → length a ≡ length b
    → v ≡ get_or a i v → w ≡ get_or b i w
    → rest_order (drop i a) (drop i b) ≡ ordering_then (val_cmp (view v) (view w))
    (rest_order (drop (i + 1) a) (drop (i + 1) b))
turn a b i v w lt same v-is w-is =
    let first : drop i a ≡ v ∷ drop (i + 1) a =
    rw add-one (drop-cons a i v lt ∙ ap (λ (x : Value). x ∷ drop (suc i) a) (sym v-is)) in
    let second : drop i b ≡ w ∷ drop (i + 1) b =
    rw add-one (drop-cons b i w (omega arith)
    ∙ ap (λ (x : Value). x ∷ drop (suc i) b) (sym w-is)) in
    ap₂ rest_order first second ∙ first_decides v w (drop (i + 1) a) (drop (i + 1) b)

pub ended : (a b : List Value) (i : ℕ) → length a ≤ i → length a ≡ length b
    → rest_order (drop i a) (drop i b) ≡ Equal
unfolding flat
ended a b i le same = ap₂ rest_order (drop_all i a le) (drop_all i b (omega arith))

-- the whole, where the lengths are the same
pub bodies : (a b : List Value) → nat_cmp (length a) (length b) ≡ Equal
    → lex (body (plain.array (views a))) (body (plain.array (views b))) ≡ rest_order a b
bodies a b same = ap (λ (o : Ordering). ordering_then o (rest_order a b))
    (ap₂ nat_cmp (count_views a) (count_views b) ∙ same)

pub bodies_differ : (a b : List Value) (o : Ordering) → o ≡ nat_cmp (length a) (length b)
    → (o ≡ Equal → ⊥) → o ≡ lex (body (plain.array (views a))) (body (plain.array (views b)))
bodies_differ a b o is differs = stays o (rest_order a b) differs
    ∙ ap (λ (x : Ordering). ordering_then x (rest_order a b))
    (is ∙ sym (ap₂ nat_cmp (count_views a) (count_views b)))

then_equal : (o : Ordering) → ordering_then o Equal ≡ o
then_equal Less = refl
then_equal Equal = refl
then_equal Greater = refl

-- what follows numbers that differ doesn't matter
differ : (n m : ℕ) (x y : Ordering) → (n ≡ m → ⊥)
    → ordering_then (nat_cmp n m) x ≡ ordering_then (nat_cmp n m) y
differ n m x y apart = by_order (nat_cmp n m) (ranked n m (nat_cmp n m) refl)
  where
    by_order : (o : Ordering) → MatchOrdering o (n < m) (n ≡ m) (m < n)
        → ordering_then o x ≡ ordering_then o y
    by_order Less is = refl
    by_order Equal is = absurd (apart is)
    by_order Greater is = refl

-- the order of null, bools and floats by their codes and bits
abbrev by_key : Val → Val → Ordering
by_key a b = ordering_then (nat_cmp (slice_index (body a) 0) (slice_index (body b) 0))
    (nat_cmp (slice_index (body a) 1) (slice_index (body b) 1))

simple_pair : (a b : Val) → major_type a ≡ 7 → major_type b ≡ 7 → by_key a b ≡ lex (body a) (body b)
simple_pair (plain.integer (pos n)) _ x y = absurd (omega arith)
simple_pair (plain.integer (negsuc n)) _ x y = absurd (omega arith)
simple_pair (plain.bytes s) _ x y = absurd (omega arith)
simple_pair (plain.text s) _ x y = absurd (omega arith)
simple_pair (plain.array vs) _ x y = absurd (omega arith)
simple_pair (plain.map ps) _ x y = absurd (omega arith)
simple_pair (plain.tag n v) _ x y = absurd (omega arith)
simple_pair _ (plain.integer (pos n)) x y = absurd (omega arith)
simple_pair _ (plain.integer (negsuc n)) x y = absurd (omega arith)
simple_pair _ (plain.bytes s) x y = absurd (omega arith)
simple_pair _ (plain.text s) x y = absurd (omega arith)
simple_pair _ (plain.array vs) x y = absurd (omega arith)
simple_pair _ (plain.map ps) x y = absurd (omega arith)
simple_pair _ (plain.tag n v) x y = absurd (omega arith)
simple_pair plain.null plain.null x y = refl
simple_pair plain.null (plain.bool c) x y = refl
simple_pair plain.null (plain.float w n) x y =
    differ 22 (float_code w) _ _ (λ same. omega (arith, lt-float_code w))
simple_pair (plain.bool b) plain.null x y = refl
simple_pair (plain.bool b) (plain.bool c) x y = refl
simple_pair (plain.bool b) (plain.float w n) x y =
    differ (bool_code b) (float_code w) _ _ (λ same. omega (arith, bool_code-lt b, lt-float_code w))
simple_pair (plain.float w n) plain.null x y =
    differ (float_code w) 22 _ _ (λ same. omega (arith, lt-float_code w))
simple_pair (plain.float w n) (plain.bool b) x y =
    differ (float_code w) (bool_code b) _ _ (λ same. omega (arith, bool_code-lt b, lt-float_code w))
simple_pair (plain.float w n) (plain.float z m) x y =
    ap (ordering_then (nat_cmp (float_code w) (float_code z))) (sym (then_equal (nat_cmp n m)))

pub simples : (a b : Val) (o : Ordering) → major_type a ≡ 7 → major_type b ≡ 7 → o ≡ by_key a b
    → o ≡ lex (body a) (body b)
simples a b o x y is = is ∙ simple_pair a b x y

float_major : (f : Float) → major_type (float_view f) ≡ 7
float_major (Half n) = refl
float_major (Single n) = refl
float_major (Double n) = refl

pub floats : (f g : Float) (o : Ordering) → o ≡ by_key (float_view f) (float_view g)
    → o ≡ val_cmp (float_view f) (float_view g)
floats f g o is =
    let a = float_view f in
    let b = float_view g in
    simples a b o (float_major f) (float_major g) is
    ∙ sym (majors_same a b (float_major f ∙ sym (float_major g)))

-- ---- pairs

abbrev pub rest_pairs : List (Value × Value) → List (Value × Value) → Ordering
rest_pairs ps qs = lex (flat_pairs (pair_views ps)) (flat_pairs (pair_views qs))

first_pair : (p q : Value × Value) (ps qs : List (Value × Value))
    → rest_pairs (p ∷ ps) (q ∷ qs) ≡ ordering_then (pair_order p q) (rest_pairs ps qs)
unfolding flat
first_pair p q ps qs =
    flats_apart (view p.0) (view q.0) (flat (view p.1) ++ flat_pairs (pair_views ps))
    (flat (view q.1) ++ flat_pairs (pair_views qs))
    ∙ ap (ordering_then (val_cmp (view p.0) (view q.0)))
    (flats_apart (view p.1) (view q.1) (flat_pairs (pair_views ps))
    (flat_pairs (pair_views qs)))
    ∙ sym (then_assoc (val_cmp (view p.0) (view q.0)) (val_cmp (view p.1) (view q.1))
    (rest_pairs ps qs))

pub pair_turn : (a b : List (Value × Value)) (i : ℕ) (v w : Value × Value) → i < length a
    → length a ≡ length b → v ≡ get_or a i v → w ≡ get_or b i w
    → rest_pairs (drop i a) (drop i b) ≡ ordering_then (pair_order v w)
    (rest_pairs (drop (i + 1) a) (drop (i + 1) b))
pair_turn a b i v w lt same v-is w-is =
    let first : drop i a ≡ v ∷ drop (i + 1) a =
    rw add-one (drop-cons a i v lt
    ∙ ap (λ (x : Value × Value). x ∷ drop (suc i) a) (sym v-is)) in
    let second : drop i b ≡ w ∷ drop (i + 1) b =
    rw add-one (drop-cons b i w (omega arith)
    ∙ ap (λ (x : Value × Value). x ∷ drop (suc i) b) (sym w-is)) in
    ap₂ rest_pairs first second ∙ first_pair v w (drop (i + 1) a) (drop (i + 1) b)

pub pairs_ended : (a b : List (Value × Value)) (i : ℕ) → length a ≤ i → length a ≡ length b
    → rest_pairs (drop i a) (drop i b) ≡ Equal
unfolding flat
pairs_ended a b i le same = ap₂ rest_pairs (drop_all i a le) (drop_all i b (omega arith))

pub pair_bodies : (a b : List (Value × Value)) → nat_cmp (length a) (length b) ≡ Equal
    → lex (body (plain.map (pair_views a))) (body (plain.map (pair_views b))) ≡ rest_pairs a b
pair_bodies a b same =
    ap (λ (o : Ordering). ordering_then o (rest_pairs a b))
    (ap₂ nat_cmp (pair_count_pair_views a) (pair_count_pair_views b) ∙ same)

pub pair_bodies_differ : (a b : List (Value × Value)) (o : Ordering)
    → o ≡ nat_cmp (length a) (length b) → (o ≡ Equal → ⊥)
    → o ≡ lex (body (plain.map (pair_views a))) (body (plain.map (pair_views b)))
pair_bodies_differ a b o is differs = stays o (rest_pairs a b) differs
    ∙ ap (λ (x : Ordering). ordering_then x (rest_pairs a b))
    (is ∙ sym (ap₂ nat_cmp (pair_count_pair_views a) (pair_count_pair_views b)))

pub view-Map : (m : MapType)
    → view (variants.Map m) ≡ plain.map (pair_views (out-Map m).pairs.items)
view-Map m = search (rules, the_lemmas)

pub key_decides : (o : Ordering) (p q : Value × Value) (r : Ordering) → (o ≡ Equal → ⊥)
    → o ≡ val_cmp (view p.0) (view q.0) → o ≡ ordering_then (pair_order p q) r
key_decides o p q r differs is =
    let x = val_cmp (view p.1) (view q.1) in
    stays o (ordering_then x r) differs ∙ sym (then_assoc o x r)
    ∙ ap (λ (k : Ordering). ordering_then (ordering_then k x) r) is

pub value_decides : (o : Ordering) (p q : Value × Value) (r : Ordering)
    → Equal ≡ val_cmp (view p.0) (view q.0) → (o ≡ Equal → ⊥) → o ≡ val_cmp (view p.1) (view q.1)
    → o ≡ ordering_then (pair_order p q) r
value_decides o p q r tied differs is = stays o r differs
    ∙ ap (λ (k : Ordering). ordering_then k r)
    (is ∙ ap (λ (k : Ordering). ordering_then k (val_cmp (view p.1) (view q.1))) tied)

pub both_tied : (p q : Value × Value) (r : Ordering) → Equal ≡ val_cmp (view p.0) (view q.0)
    → Equal ≡ val_cmp (view p.1) (view q.1) → r ≡ ordering_then (pair_order p q) r
both_tied p q r keys values =
    ap (λ (k : Ordering). ordering_then k r)
    (values ∙ ap (λ (k : Ordering). ordering_then k (val_cmp (view p.1) (view q.1))) keys)

-- `==` is a tie
pub tied : (a b : Val) (o : Ordering) → o ≡ val_cmp a b
    → is_eq o ≡ pointwise nat_eq (flat a) (flat b)
tied a b o is = ap is_eq is ∙ sym (texts_ties (flat a) (flat b))
