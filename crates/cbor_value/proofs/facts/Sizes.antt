-- Published: a measure, by which what lies inside a value is smaller.
use Rattle.std.proofs.Common.{◌≡◌, ℕ, zero, suc, ◌+◌, ◌<◌, ◌≤◌, List, [], ◌∷◌, length, get_or, ap}
use Rattle.std.proofs.Common.{arith}
use Rattle.cbor_model.specs.Plain.{Val, array, map, tag, Vals, no_vals, val, Pairs, no_pairs, pair}
use Rattle.cbor_value.specs.declared.Value.{Value}
use Rattle.cbor_value.specs.View.{view, views, pair_views}

abbrev mutual
  pub size : Val → ℕ
  size (array vs) = suc (sizes vs)
  size (map ps) = suc (pair_sizes ps)
  size (tag n v) = suc (size v)
  size _ = 0

  pub sizes : Vals → ℕ
  sizes no_vals = 0
  sizes (val v vs) = size v + sizes vs

  pub pair_sizes : Pairs → ℕ
  pair_sizes no_pairs = 0
  pair_sizes (pair k v ps) = size k + size v + pair_sizes ps

pub size_at : (vs : List Value) (i : ℕ) (v : Value) → i < length vs → v ≡ get_or vs i v
    → size (view v) ≤ sizes (views vs)
size_at [] i v lt is = absurd (omega arith)
size_at (w ∷ ws) zero v lt is =
    let e : size (view v) ≡ size (view w) = ap (λ (x : Value). size (view x)) is in omega arith
size_at (w ∷ ws) (suc i) v lt is =
    let h = size_at ws i v (omega arith) is in omega (arith, h)

pub pair_size_at : (ps : List (Value × Value)) (i : ℕ) (p : Value × Value) → i < length ps
    → p ≡ get_or ps i p → size (view p.0) + size (view p.1) ≤ pair_sizes (pair_views ps)
pair_size_at [] i p lt is = absurd (omega arith)
pair_size_at (q ∷ qs) zero p lt is =
    let k : size (view p.0) ≡ size (view q.0) = ap (λ (x : Value × Value). size (view x.0)) is in
    let v : size (view p.1) ≡ size (view q.1) = ap (λ (x : Value × Value). size (view x.1)) is in
    omega arith
pair_size_at (q ∷ qs) (suc i) p lt is =
    let h = pair_size_at qs i p (omega arith) is in omega (arith, h)

pub key_size_at : (ps : List (Value × Value)) (i : ℕ) (p : Value × Value) → i < length ps
    → p ≡ get_or ps i p → size (view p.0) ≤ pair_sizes (pair_views ps)
key_size_at ps i p lt is = let h = pair_size_at ps i p lt is in omega (arith, h)

pub value_size_at : (ps : List (Value × Value)) (i : ℕ) (p : Value × Value) → i < length ps
    → p ≡ get_or ps i p → size (view p.1) ≤ pair_sizes (pair_views ps)
value_size_at ps i p lt is = let h = pair_size_at ps i p lt is in omega (arith, h)
