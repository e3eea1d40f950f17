-- The bytes that a float is written as, by its width; for private clauses.
use Rattle.std.specs.Prelude.{ℕ, List, ◌∷◌}
use Rattle.std.specs.Int.{w16, w32, w64, to_be_bytes}
use Rattle.cbor_serde_ser.specs.declared.float.Encoded.{Encoded}
use Rattle.cbor_serde_ser.specs.declared.float.Encoded.TheVariants.{Half, Single, Double}

abbrev pub encoded_bytes : Encoded → List ℕ
encoded_bytes (Half bits) = 0xf9 ∷ to_be_bytes w16 bits
encoded_bytes (Single bits) = 0xfa ∷ to_be_bytes w32 bits
encoded_bytes (Double bits) = 0xfb ∷ to_be_bytes w64 bits
