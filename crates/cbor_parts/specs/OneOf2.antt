-- The variants of `OneOf2`, as functions.
use Rattle.cbor_parts.specs.declared.OneOf2.{OneOf2}
use Rattle.cbor_parts.specs.declared.OneOf2.TheVariants as one_of

abbrev pub first : {A B : Type 0} → A → OneOf2 A B
first x = one_of.First x

abbrev pub second : {A B : Type 0} → B → OneOf2 A B
second x = one_of.Second x
