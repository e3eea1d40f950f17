-- The bytes of an item that isn't decoded.
use Rattle.std.specs.Prelude.{ℕ, List}
use Rattle.cbor_value.specs.declared.raw_value.RawSlice.{RawSlice}
use Rattle.cbor_value.specs.declared.raw_value.RawValue.{RawValue}

abbrev pub raw_bytes : RawValue → List ℕ
raw_bytes v = v.bytes.items

abbrev pub slice_bytes : RawSlice → List ℕ
slice_bytes v = v.bytes.now
