-- The variants of `OneOf3`, as functions.
use Rattle.cbor_parts.specs.declared.OneOf3.{OneOf3}
use Rattle.cbor_parts.specs.declared.OneOf3.TheVariants as one_of

abbrev pub first : {A B C : Type 0} → A → OneOf3 A B C
first x = one_of.First x

abbrev pub second : {A B C : Type 0} → B → OneOf3 A B C
second x = one_of.Second x

abbrev pub third : {A B C : Type 0} → C → OneOf3 A B C
third x = one_of.Third x
