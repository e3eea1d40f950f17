-- What stands for a name.
use Rattle.std.proofs.Common.{ℕ, List, inl}
use Rattle.std.specs.Prelude.{Bool}
use Rattle.cbor_model.specs.Raw.{Raw}
use Rattle.cbor_model.specs.Readable.{IsText}
use Rattle.serde.specs.declared.name.Name.{Name}
use Rattle.cbor_serde_de.specs.PickedNames.{PicksItem, PicksText}

-- a text is picked as its bytes are
pub text_picks : (integer_keys : Bool) (names : List Name) (key : List ℕ) (at : ℕ) → PicksText integer_keys names key at → (r : Raw) → IsText r key → PicksItem integer_keys names r at
text_picks integer_keys names key at picks r is =
    inl (key, is.0, record { text = λ _. picks; other = λ none. absurd (none is.1) })
