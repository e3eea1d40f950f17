-- The variants of `OneOf8`, as functions.
use Rattle.cbor_parts.specs.declared.OneOf8.{OneOf8}
use Rattle.cbor_parts.specs.declared.OneOf8.TheVariants as one_of

abbrev pub first : {A B C D E F G H : Type 0} → A → OneOf8 A B C D E F G H
first x = one_of.First x

abbrev pub second : {A B C D E F G H : Type 0} → B → OneOf8 A B C D E F G H
second x = one_of.Second x

abbrev pub third : {A B C D E F G H : Type 0} → C → OneOf8 A B C D E F G H
third x = one_of.Third x

abbrev pub fourth : {A B C D E F G H : Type 0} → D → OneOf8 A B C D E F G H
fourth x = one_of.Fourth x

abbrev pub fifth : {A B C D E F G H : Type 0} → E → OneOf8 A B C D E F G H
fifth x = one_of.Fifth x

abbrev pub sixth : {A B C D E F G H : Type 0} → F → OneOf8 A B C D E F G H
sixth x = one_of.Sixth x

abbrev pub seventh : {A B C D E F G H : Type 0} → G → OneOf8 A B C D E F G H
seventh x = one_of.Seventh x

abbrev pub eighth : {A B C D E F G H : Type 0} → H → OneOf8 A B C D E F G H
eighth x = one_of.Eighth x
