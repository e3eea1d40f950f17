-- What bytes say that are one item, within some levels of nesting.
use Rattle.std.specs.Prelude.{◌≡◌, ℕ, List, [], Some}
use Rattle.cbor_model.specs.Acceptable.{FitsScratch}
use Rattle.cbor_model.specs.Document.{Doc}
use Rattle.cbor_model.specs.Formats.{all_formats}
use Rattle.cbor_model.specs.Raw.{Raw}
use Rattle.cbor_de.specs.ItemTaken.{BeginsAs}

-- The bytes are one item, nested no deeper, that is read as this value.
abbrev pub SaysWithin : {A : Type 0} → ℕ → (Raw → A → Type 0) → List ℕ → A → Type 0
SaysWithin levels reads bytes x = BeginsAs all_formats levels reads bytes x []

-- They say this value, and no other but of the same document. None of their strings is in chunks,
-- so that they need no scratch.
pub record SaysOnlyWithin {A : Type 0} (levels : ℕ) (document : A → Doc) (reads : Raw → A → Type 0)
    (bytes : List ℕ) (x : A) : Type 0 where
  pub itself : SaysWithin levels reads bytes x
  pub fits : FitsScratch (Some 0) itself.item
  pub alone : (other : A) → SaysWithin levels reads bytes other → document other ≡ document x
