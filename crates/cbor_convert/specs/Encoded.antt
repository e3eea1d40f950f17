-- Encoded items within byte strings.
use Rattle.std.specs.Prelude.{ℕ, List}
use Rattle.cbor_convert.specs.declared.encoded.Encoded.{Encoded}

-- the bytes of the encoding
abbrev pub encoding : {T : Type 0} → Encoded T → List ℕ
encoding e = e.tagged.0.0.items
