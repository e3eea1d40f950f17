-- Values in memory, one after the other.
use Rattle.std.proofs.Common.{◌≡◌, ℕ, ◌+◌, ◌^◌, ◌<◌, List, length, drop, get_or, sym, subst, arith}
use Rattle.std.specs.Prelude.{Result, Ok, Err, OnOk}
use Rattle.std.proofs.lemmas.Result.{on_ok_weaker}
use Rattle.cbor_model.specs.Plain.{array}
use Rattle.cbor_model.specs.InMemory.{IsInMemory, AreInMemory, ArePairsInMemory}
use Rattle.cbor_value.specs.declared.Value.{Value}
use Rattle.cbor_value.specs.View.{view, views, pair_views}
use Rattle.cbor_value.proofs.facts.Views.{count_views}
use Rattle.cbor_ser.proofs.Writing.{cons_at}

pub in_memory_from : (vs : List Value) (i : ℕ) (v : Value) → i < length vs → v ≡ get_or vs i v → IsInMemory (view v) → AreInMemory (views (drop (i + 1) vs)) → AreInMemory (views (drop i vs))
in_memory_from vs i v lt is here after = subst (λ (xs : List Value). AreInMemory (views xs)) (sym (cons_at vs i v lt is)) (here, after)

pub pair_in_memory_from : (ps : List (Value × Value)) (i : ℕ) (p : Value × Value) → i < length ps → p ≡ get_or ps i p → IsInMemory (view p.0) → IsInMemory (view p.1)
    → ArePairsInMemory (pair_views (drop (i + 1) ps)) → ArePairsInMemory (pair_views (drop i ps))
pair_in_memory_from ps i p lt is key value after = subst (λ (xs : List (Value × Value)). ArePairsInMemory (pair_views xs)) (sym (cons_at ps i p lt is)) (key, value, after)

-- what a step answers that wrote the items of an array
pub array_in_memory : {T E : Type 0} (vs : List Value) (r : Result T E) → length vs < 2 ^ 64 → OnOk r (AreInMemory (views vs)) → OnOk r (IsInMemory (array (views vs)))
array_in_memory vs r fits all = on_ok_weaker r (λ each. (omega (arith, fits, count_views vs), each)) all

-- what holds anyway holds where a step answers Ok
pub always : {T E P : Type 0} (r : Result T E) → P → OnOk r P
always (Ok x) h = h
always (Err e) h = tt
