-- The bits of a number of 64 bits are of that number.
use Rattle.std.proofs.Common.{◌≡◌}
use Rattle.std.specs.Prelude.{T}
use Rattle.std.specs.Float.{Float, binary64}
use Rattle.std.specs.Float.Ieee.{of_bits, to_bits, fits}
use lib.Ieee.Bits.{of_bits-to_bits}

pub double_again : (x : Float) → T (fits binary64 x) → of_bits binary64 (to_bits binary64 x) ≡ x
double_again x is = of_bits-to_bits binary64 x is
