-- What the bytes of a value are.
use Rattle.std.specs.Prelude.{◌≡◌, ◌++◌, ℕ, List, [], Option, Some, IfSome}
use Rattle.serde.specs.Event.{Log}
use Rattle.cbor_model.specs.Plain.{Val}
use Rattle.cbor_model.specs.Laws.{SpellsValue}
use Rattle.cbor_ser.specs.Bytes.{IsCanonicalSpelling}
use Rattle.cbor_serde_options.specs.declared.options.Options.{Options}
use Rattle.cbor_serde_ser.specs.Document.{AreBytesOf, IsItem}

-- They are the canonical encoding of the value that the document of these events encodes.
pub record IsCanonicalOf (o : Options) (log : Log) (bytes : List ℕ) : Type 0 where
  pub plain : List ℕ
  pub sent : AreBytesOf o log plain
  pub tree : Val
  pub spells : SpellsValue plain tree
  pub canonical : IsCanonicalSpelling bytes tree

-- A sink that reports its bytes has, after those that it had, one acceptable item: the document of the
-- events that were sent.
abbrev pub Appends : Options → (Log → Log → Type 0) → Option (List ℕ) → Option (List ℕ) → Type 0
Appends o writes old new = IfSome old (λ had.
    (log : Log) × (bytes : List ℕ) × writes (Some []) log × AreBytesOf o log bytes
    × IsItem bytes × (new ≡ Some (had ++ bytes)))

-- it is the value that the document of these events encodes
pub record IsValueOf (o : Options) (log : Log) (tree : Val) : Type 0 where
  pub bytes : List ℕ
  pub sent : AreBytesOf o log bytes
  pub spells : SpellsValue bytes tree
