-- Whether null is at the front.
use Rattle.std.specs.Prelude.{◌≢◌, ℕ, Bool, true, false, List, [], ◌∷◌, Ok, ◌==◌, if◌then◌else◌}
use Rattle.cbor_model.specs.Raw as raw
use Rattle.cbor_model.specs.Raw.{Raw, null_item}
use Rattle.cbor_model.specs.Reader.{Reads}

-- whether the first byte is null's, which is taken then
abbrev pub null_at : List ℕ → Reads Bool
null_at [] = Ok (false, [])
null_at (b ∷ bs) = if b == 0xf6 then Ok (true, bs) else Ok (false, b ∷ bs)

-- of an item that isn't null
abbrev pub UnlessNull : (Raw → Type 0) → Raw → Type 0
UnlessNull P r = (r ≢ raw.simple null_item) × P r
