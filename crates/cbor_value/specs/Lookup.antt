-- What stands in a value under a key, or at a position.
use Rattle.std.specs.Prelude.{ℕ, zero, suc, Option, Some, None}
use Rattle.std.specs.FinMap as finmap
use Rattle.cbor_model.specs.FiniteMap.{finite_map}
use Rattle.cbor_model.specs.Plain.{Val, map, array, Vals, no_vals, val}

-- the value that a map has for the key
abbrev pub value_of : Val → Val → Option Val
value_of k (map ps) = finmap.get (finite_map ps) k
value_of k _ = None

abbrev pub item_at : ℕ → Vals → Option Val
item_at i no_vals = None
item_at zero (val v vs) = Some v
item_at (suc i) (val v vs) = item_at i vs

-- an array's item at a position, from 0
abbrev pub item_of : ℕ → Val → Option Val
item_of i (array vs) = item_at i vs
item_of i _ = None
