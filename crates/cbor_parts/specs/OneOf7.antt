-- The variants of `OneOf7`, as functions.
use Rattle.cbor_parts.specs.declared.OneOf7.{OneOf7}
use Rattle.cbor_parts.specs.declared.OneOf7.TheVariants as one_of

abbrev pub first : {A B C D E F G : Type 0} → A → OneOf7 A B C D E F G
first x = one_of.First x

abbrev pub second : {A B C D E F G : Type 0} → B → OneOf7 A B C D E F G
second x = one_of.Second x

abbrev pub third : {A B C D E F G : Type 0} → C → OneOf7 A B C D E F G
third x = one_of.Third x

abbrev pub fourth : {A B C D E F G : Type 0} → D → OneOf7 A B C D E F G
fourth x = one_of.Fourth x

abbrev pub fifth : {A B C D E F G : Type 0} → E → OneOf7 A B C D E F G
fifth x = one_of.Fifth x

abbrev pub sixth : {A B C D E F G : Type 0} → F → OneOf7 A B C D E F G
sixth x = one_of.Sixth x

abbrev pub seventh : {A B C D E F G : Type 0} → G → OneOf7 A B C D E F G
seventh x = one_of.Seventh x
