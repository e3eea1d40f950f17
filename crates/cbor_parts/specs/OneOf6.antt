-- The variants of `OneOf6`, as functions.
use Rattle.cbor_parts.specs.declared.OneOf6.{OneOf6}
use Rattle.cbor_parts.specs.declared.OneOf6.TheVariants as one_of

abbrev pub first : {A B C D E F : Type 0} → A → OneOf6 A B C D E F
first x = one_of.First x

abbrev pub second : {A B C D E F : Type 0} → B → OneOf6 A B C D E F
second x = one_of.Second x

abbrev pub third : {A B C D E F : Type 0} → C → OneOf6 A B C D E F
third x = one_of.Third x

abbrev pub fourth : {A B C D E F : Type 0} → D → OneOf6 A B C D E F
fourth x = one_of.Fourth x

abbrev pub fifth : {A B C D E F : Type 0} → E → OneOf6 A B C D E F
fifth x = one_of.Fifth x

abbrev pub sixth : {A B C D E F : Type 0} → F → OneOf6 A B C D E F
sixth x = one_of.Sixth x
