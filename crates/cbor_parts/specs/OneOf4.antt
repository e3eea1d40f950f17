-- The variants of `OneOf4`, as functions.
use Rattle.cbor_parts.specs.declared.OneOf4.{OneOf4}
use Rattle.cbor_parts.specs.declared.OneOf4.TheVariants as one_of

abbrev pub first : {A B C D : Type 0} → A → OneOf4 A B C D
first x = one_of.First x

abbrev pub second : {A B C D : Type 0} → B → OneOf4 A B C D
second x = one_of.Second x

abbrev pub third : {A B C D : Type 0} → C → OneOf4 A B C D
third x = one_of.Third x

abbrev pub fourth : {A B C D : Type 0} → D → OneOf4 A B C D
fourth x = one_of.Fourth x
