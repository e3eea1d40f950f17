-- What kind of item a head announces.
use Rattle.cbor_model.specs.Raw as raw
use Rattle.cbor_model.specs.Raw.{Raw, false_item, true_item, null_item, undefined_item}
use Rattle.cbor_decode.specs.declared.head.Head.{Head}
use Rattle.cbor_decode.specs.declared.head.Head.TheVariants as head

pub data Kind : Type 0 where
  unsigned : Kind
  negative : Kind
  bytes : Kind
  text : Kind
  array : Kind
  map : Kind
  tag : Kind
  bool : Kind
  null : Kind
  undefined : Kind
  float : Kind
  nothing : Kind

abbrev pub kind_of : Raw → Kind
kind_of (raw.unsigned w n) = unsigned
kind_of (raw.negative w n) = negative
kind_of (raw.bytes c) = bytes
kind_of (raw.text c) = text
kind_of (raw.bytes_chunks cs) = bytes
kind_of (raw.text_chunks cs) = text
kind_of (raw.array l rs) = array
kind_of (raw.map l ps) = map
kind_of (raw.tag w n r) = tag
kind_of (raw.simple false_item) = bool
kind_of (raw.simple true_item) = bool
kind_of (raw.simple null_item) = null
kind_of (raw.simple undefined_item) = undefined
kind_of (raw.float w bits) = float

abbrev pub head_kind : Head → Kind
head_kind (head.Unsigned n) = unsigned
head_kind (head.Negative n) = negative
head_kind (head.Bytes n) = bytes
head_kind (head.Text n) = text
head_kind (head.Array remaining) = array
head_kind (head.Map remaining) = map
head_kind (head.Tag n) = tag
head_kind (head.Bool b) = bool
head_kind head.Null = null
head_kind head.Undefined = undefined
head_kind (head.Float f) = float
head_kind head.Break = nothing
