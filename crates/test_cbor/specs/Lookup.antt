-- The text under a key of a map.
use Rattle.std.specs.Prelude.{◌≡◌, ℕ, List, Some}
use Rattle.std.specs.FinMap as finmap
use Rattle.cbor_model.specs.FiniteMap.{finite_map}
use Rattle.cbor_model.specs.Laws.{SpellsValue}
use Rattle.cbor_model.specs.Plain as plain
use Rattle.cbor_model.specs.Plain.{Val}

-- the value is this text
abbrev pub IsText : Val → List ℕ → Type 0
IsText (plain.text b) text = b ≡ text
IsText _ text = ⊥

-- the value is a map, in which this text stands under this key
abbrev pub IsUnder : Val → Val → List ℕ → Type 0
IsUnder (plain.map pairs) key text = finmap.get (finite_map pairs) key ≡ Some (plain.text text)
IsUnder _ key text = ⊥

-- The bytes spell a map, in which this text stands under this key.
pub record HasText (bytes key text : List ℕ) : Type 0 where
  pub value : Val
  pub spelled : SpellsValue bytes value
  pub found : IsUnder value (plain.text key) text
