-- What a look into a value finds.
use Rattle.std.proofs.Common.{◌≡◌, ℕ, zero, suc, ◌<◌, ◌≤◌, List, [], ◌∷◌, length, get_or, Bor, true}
use Rattle.std.proofs.Common.{false, cond, Option, Some, None, option_map, IfSome, refl, sym, ap}
use Rattle.std.proofs.Common.{◌∙◌, arith, subst}
use Rattle.std.specs.FinMap as finmap
use Rattle.std.specs.FinMap.{find}
use Rattle.std.specs.Ordering.{eq_by_cmp}
use Rattle.std.specs.Slice.{IsItemAt}
use Rattle.cbor_model.specs.Canonical.{IsOrdered, AreOrdered, ArePairsOrdered}
use Rattle.cbor_model.specs.FiniteMap.{entries, finite_map}
use Rattle.cbor_model.specs.Order.{val_cmp}
use Rattle.cbor_model.specs.Plain.{Val, Vals, no_vals, val, Pairs, no_pairs, pair}
use Rattle.cbor_model.proofs.facts.Maps.{get-finite_map}
use Rattle.cbor_value.specs.declared.Value.{Value}
use Rattle.cbor_value.specs.Lookup.{item_at}
use Rattle.cbor_value.specs.View.{view, views}

-- what is lent is ordered, where what it stands for is
pub IsOrdered-found : (r : Option (Bor Value)) (o : Option Val) → option_map (λ v. view v.now) r ≡ o
    → IfSome o IsOrdered → IfSome r (λ v. IsOrdered (view v.now))
IsOrdered-found None o is ordered = tt
IsOrdered-found (Some v) o is ordered =
    let P : Option Val → Type 0 = λ x. IfSome x IsOrdered in
    subst P (sym is) ordered

IsOrdered-find : (k : Val) (ps : Pairs) → ArePairsOrdered ps
    → IfSome (find val_cmp k (entries ps)) IsOrdered
IsOrdered-find k no_pairs ordered = tt
IsOrdered-find k (pair l w ps) ordered =
    elim (eq_by_cmp val_cmp k l) as
    (λ b. IfSome (cond b (Some w) (find val_cmp k (entries ps))) IsOrdered) [
      | true ↦ ordered.2
      | false ↦ IsOrdered-find k ps ordered.3
    ]

pub IsOrdered-get : (k : Val) (ps : Pairs) → ArePairsOrdered ps
    → IfSome (finmap.get (finite_map ps) k) IsOrdered
IsOrdered-get k ps ordered =
    let P : Option Val → Type 0 = λ x. IfSome x IsOrdered in
    subst P (sym (get-finite_map k ps)) (IsOrdered-find k ps ordered)

pub IsOrdered-item_at : (i : ℕ) (vs : Vals) → AreOrdered vs → IfSome (item_at i vs) IsOrdered
IsOrdered-item_at i no_vals ordered = tt
IsOrdered-item_at zero (val v vs) ordered = ordered.0
IsOrdered-item_at (suc i) (val v vs) ordered = IsOrdered-item_at i vs ordered.1

item_at-within : (vs : List Value) (i : ℕ) (d : Value) → i < length vs
    → Some (view (get_or vs i d)) ≡ item_at i (views vs)
item_at-within [] i d lt = absurd (omega arith)
item_at-within (v ∷ vs) zero d lt = refl
item_at-within (v ∷ vs) (suc i) d lt = item_at-within vs i d (omega arith)

item_at-past : (vs : List Value) (i : ℕ) → length vs ≤ i → None ≡ item_at i (views vs)
item_at-past [] i le = refl
item_at-past (v ∷ vs) zero le = absurd (omega arith)
item_at-past (v ∷ vs) (suc i) le = item_at-past vs i (omega arith)

pub item_at-views : (vs : List Value) (i : ℕ) (r : Option (Bor Value)) → IsItemAt vs i r
    → option_map (λ v. view v.now) r ≡ item_at i (views vs)
item_at-views vs i None is = item_at-past vs i is.3
item_at-views vs i (Some v) is =
    ap (λ x. Some (view x)) is.1 ∙ item_at-within vs i v.now is.3.0
