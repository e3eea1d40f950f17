-- The variants of `OneOf1`, as functions.
use Rattle.cbor_parts.specs.declared.OneOf1.{OneOf1}
use Rattle.cbor_parts.specs.declared.OneOf1.TheVariants as one_of

abbrev pub first : {A : Type 0} → A → OneOf1 A
first x = one_of.First x
