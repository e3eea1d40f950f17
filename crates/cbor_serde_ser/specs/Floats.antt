-- The width of a float: its own, or the shortest that holds it, in which the Rust crate writes it.
use Rattle.std.specs.Prelude.{ℕ, Bool, true, ◌&&◌, ◌==◌, if◌then◌else◌, Option, Some, None, List, ◌∷◌, to_bits}
use Rattle.std.specs.Int.{w16, w32, w64, to_be_bytes}
use Rattle.std.specs.Float.{Float, binary32, binary64, round_to_format}
pub use Rattle.cbor_halves.specs.Halves.{half_of}

abbrev pub half_or_single : ℕ → Option ℕ → List ℕ
half_or_single bits None = 0xfa ∷ to_be_bytes w32 bits
half_or_single bits (Some half) = 0xf9 ∷ to_be_bytes w16 half

-- a number of 32 bits: in its own width or, where that is asked for, in the least that holds it
abbrev pub single_bytes : Bool → Float → List ℕ
single_bytes shortest x = half_or_single (to_bits binary32 x) (if shortest then half_of (to_bits binary32 x) else None)

-- the nearest number of 32 bits is the same
abbrev pub is_single : Float → Bool
is_single x = to_bits binary64 (round_to_format binary32 x) == to_bits binary64 x

-- a number of 64 bits, in the same way
abbrev pub double_bytes : Bool → Float → List ℕ
double_bytes shortest x =
    if shortest && is_single x then single_bytes true (round_to_format binary32 x)
    else 0xfb ∷ to_be_bytes w64 (to_bits binary64 x)
