-- The numbers of the major types (RFC 7049, section 2.1).
use Rattle.std.specs.Prelude.{◌≡◌, ℕ, refl}
use Rattle.cbor_io.specs.declared.head.Major.{Major}
use Rattle.cbor_io.specs.declared.head.Major.TheVariants.{UnsignedInteger, NegativeInteger}
use Rattle.cbor_io.specs.declared.head.Major.TheVariants.{ByteString, TextString, Array, Map, Tag}
use Rattle.cbor_io.specs.declared.head.Major.TheVariants.{Simple}

abbrev pub major_number : Major → ℕ
major_number UnsignedInteger = 0
major_number NegativeInteger = 1
major_number ByteString = 2
major_number TextString = 3
major_number Array = 4
major_number Map = 5
major_number Tag = 6
major_number Simple = 7

-- ---- examples

text : major_number TextString ≡ 3
text = refl
