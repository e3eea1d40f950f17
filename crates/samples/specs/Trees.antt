-- As which trees values are read.
use Rattle.std.specs.Prelude.{◌≡◌, List, [], ◌∷◌, Vec, ◌⊎◌}
use Rattle.std.specs.Global.{Global}
use Rattle.serde_cbor.specs.Error.{IsOutOfMemory}
use Rattle.serde_cbor.specs.Plain.{Val, integer, array, Vals, no_vals, val}
use Rattle.serde_cbor.specs.declared.error.Error.{Error}
use Rattle.samples.specs.declared.tree.Tree.{Tree, Leaf, Node}

-- An integer is a leaf, and an array the node of the trees that its items are.
abbrev mutual
  pub IsTree : Val → Tree → Type 0
  IsTree (integer z) t = t ≡ Leaf z
  IsTree (array vs) t = (parts : Vec Tree Global) × (t ≡ Node parts) × AreTrees vs parts.items
  IsTree _ t = ⊥

  pub AreTrees : Vals → List Tree → Type 0
  AreTrees no_vals [] = Unit {0}
  AreTrees (val v vs) (t ∷ ts) = IsTree v t × AreTrees vs ts
  AreTrees _ _ = ⊥

-- memory ran out, or the value is no tree
abbrev pub RefusesTree : Val → Error → Type 0
RefusesTree v e = IsOutOfMemory e ⊎ ((t : Tree) → IsTree v t → ⊥)

abbrev pub RefusesTrees : Vals → Error → Type 0
RefusesTrees vs e = IsOutOfMemory e ⊎ ((ts : List Tree) → AreTrees vs ts → ⊥)
