-- The kind of an item, by its head.
use Rattle.std.specs.Prelude.{Option, Some, None}
use Rattle.cbor_decode.specs.declared.head.Head.{Head}
use Rattle.cbor_decode.specs.declared.head.Head.TheVariants as head
use Rattle.serde.specs.declared.format.Kind.{Kind}
use Rattle.serde.specs.declared.format.Kind.TheVariants as kind

-- None of a tag and of a break
abbrev pub kind_of : Head → Option Kind
kind_of (head.Unsigned n) = Some kind.Unsigned
kind_of (head.Negative n) = Some kind.Signed
kind_of (head.Bytes n) = Some kind.Bytes
kind_of (head.Text n) = Some kind.Str
kind_of (head.Array r) = Some kind.Seq
kind_of (head.Map r) = Some kind.Map
kind_of (head.Tag n) = None
kind_of (head.Bool b) = Some kind.Bool
kind_of head.Null = Some kind.Unit
kind_of head.Undefined = Some kind.Unit
kind_of (head.Float f) = Some kind.Float
kind_of head.Break = None
