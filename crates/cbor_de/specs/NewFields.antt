-- Maps of structs with a pair more, of a field that the struct doesn't have.
use Rattle.std.specs.Prelude.{ℕ, List}
use Rattle.cbor_model.specs.Raw.{Raw, RawPairs, Length, raw_pair, map}
use Rattle.cbor_de.specs.Structs.{IsField}
use Rattle.cbor_de.specs.declared.field.Field.TheVariants.{Unknown}

-- The pairs of a map, and the same with one more among them, whose key names none of the fields.
pub data HasNewField (names : List (List ℕ)) : RawPairs → RawPairs → Type 0 where
  here : {k v : Raw} {ps : RawPairs} → IsField names k Unknown
      → HasNewField names ps (raw_pair k v ps)
  later : {k v : Raw} {ps qs : RawPairs} → HasNewField names ps qs
      → HasNewField names (raw_pair k v ps) (raw_pair k v qs)

-- What a map is read as, it is read as with such a pair more.
abbrev pub PassesOverNewFields : {S : Type 0} → List (List ℕ) → (Raw → S → Type 0) → Type 0
PassesOverNewFields {S} names reads = (l m : Length) (ps qs : RawPairs) (x : S)
    → HasNewField names ps qs → reads (map l ps) x → reads (map m qs) x
