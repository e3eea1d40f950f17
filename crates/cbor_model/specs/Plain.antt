-- Values as plain trees: what a program's value stands for, capacities and allocators aside.
use Rattle.std.specs.Prelude.{ℕ, suc, List, Bool, ℤ}
use Rattle.cbor_model.specs.Raw.{FloatWidth}

mutual
  pub data Val : Type 0 where
    null : Val
    bool : Bool → Val
    integer : ℤ → Val
    float : FloatWidth → ℕ → Val
    bytes : List ℕ → Val
    text : List ℕ → Val
    array : Vals → Val
    map : Pairs → Val
    tag : ℕ → Val → Val

  pub data Vals : Type 0 where
    no_vals : Vals
    val : Val → Vals → Vals

  -- keys and values, in the order in which they are listed
  pub data Pairs : Type 0 where
    no_pairs : Pairs
    pair : Val → Val → Pairs → Pairs

abbrev pub count : Vals → ℕ
count no_vals = 0
count (val v vs) = suc (count vs)

abbrev pub pair_count : Pairs → ℕ
pair_count no_pairs = 0
pair_count (pair k v ps) = suc (pair_count ps)
