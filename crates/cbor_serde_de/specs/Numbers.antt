-- The floats that items are read as.
use Rattle.std.specs.Prelude.{◌≡◌, ◌⊎◌, ℤ, Float}
use Rattle.std.specs.Float.{binary32, binary64, round_to_format}
use Rattle.std.specs.Float.Ieee.{of_int}
use Rattle.cbor_model.specs.Raw.{Raw}
use Rattle.cbor_model.specs.Readable.{IsInteger}
use Rattle.cbor_decode_as.specs.Scalars.{IsFloatOf}

-- the double that is a float's number, or the nearest to an integer
abbrev pub IsDouble : Raw → Float → Type 0
IsDouble r x = IsFloatOf r x ⊎ ((z : ℤ) × IsInteger r z × (x ≡ of_int binary64 z))

-- the single that is the nearest to a float's number, or to an integer
abbrev pub IsSingle : Raw → Float → Type 0
IsSingle r x =
    ((y : Float) × IsFloatOf r y × (x ≡ round_to_format binary32 y))
    ⊎ ((z : ℤ) × IsInteger r z × (x ≡ of_int binary32 z))
