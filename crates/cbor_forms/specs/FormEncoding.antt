-- The item that a form's bytes encode, however deep the value nests.
use Rattle.std.specs.Prelude.{◌≡◌, ℕ, List}
use Rattle.cbor_model.specs.Acceptable.{IsAcceptableWithin}
use Rattle.cbor_model.specs.Canonical.{canonical}
use Rattle.cbor_model.specs.Plain.{Val}
use Rattle.cbor_model.specs.Raw.{Raw, depth}
use Rattle.cbor_model.specs.Spelling.{spell}
use Rattle.cbor_model.specs.Value.{value}

-- The bytes are the spelling of one item, acceptable within as many levels as the value nests, and it
-- is the item's value.
pub record SpellsAtDepth (bytes : List ℕ) (v : Val) : Type 0 where
  pub item : Raw
  pub acceptable : IsAcceptableWithin (depth (canonical v)) item
  pub spelled : spell item ≡ bytes
  pub valued : v ≡ value item
