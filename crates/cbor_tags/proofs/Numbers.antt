-- Numbers by their bytes.
use Rattle.std.proofs.Common.{ℕ, ◌≤◌, ◌+◌, ◌*◌, List, [], ◌∷◌, arith}
use Rattle.cbor_io.specs.Compare.{big_endian_after}

-- what stands before only adds
pub grows : (n : ℕ) (bs : List ℕ) → n ≤ big_endian_after n bs
grows n [] = omega arith
grows n (b ∷ bs) = omega (arith, grows (n * 256 + b) bs)
