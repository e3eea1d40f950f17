-- The variants of `OneOf5`, as functions.
use Rattle.cbor_parts.specs.declared.OneOf5.{OneOf5}
use Rattle.cbor_parts.specs.declared.OneOf5.TheVariants as one_of

abbrev pub first : {A B C D E : Type 0} → A → OneOf5 A B C D E
first x = one_of.First x

abbrev pub second : {A B C D E : Type 0} → B → OneOf5 A B C D E
second x = one_of.Second x

abbrev pub third : {A B C D E : Type 0} → C → OneOf5 A B C D E
third x = one_of.Third x

abbrev pub fourth : {A B C D E : Type 0} → D → OneOf5 A B C D E
fourth x = one_of.Fourth x

abbrev pub fifth : {A B C D E : Type 0} → E → OneOf5 A B C D E
fifth x = one_of.Fifth x
