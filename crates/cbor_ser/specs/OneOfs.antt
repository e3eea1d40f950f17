-- The documents of enums: the variant that is in a place is written by the number of that place and
-- the name that is there.
use Rattle.std.specs.Prelude.{ℕ, List}
use Rattle.cbor_model.specs.Document.{Doc}
use Rattle.cbor_ser.specs.PartLists.{name_in}
use Rattle.cbor_parts.specs.declared.OneOf1.{OneOf1}
use Rattle.cbor_parts.specs.declared.OneOf1.TheVariants as one_of1
use Rattle.cbor_parts.specs.declared.OneOf2.{OneOf2}
use Rattle.cbor_parts.specs.declared.OneOf2.TheVariants as one_of2
use Rattle.cbor_parts.specs.declared.OneOf3.{OneOf3}
use Rattle.cbor_parts.specs.declared.OneOf3.TheVariants as one_of3
use Rattle.cbor_parts.specs.declared.OneOf4.{OneOf4}
use Rattle.cbor_parts.specs.declared.OneOf4.TheVariants as one_of4
use Rattle.cbor_parts.specs.declared.OneOf5.{OneOf5}
use Rattle.cbor_parts.specs.declared.OneOf5.TheVariants as one_of5
use Rattle.cbor_parts.specs.declared.OneOf6.{OneOf6}
use Rattle.cbor_parts.specs.declared.OneOf6.TheVariants as one_of6
use Rattle.cbor_parts.specs.declared.OneOf7.{OneOf7}
use Rattle.cbor_parts.specs.declared.OneOf7.TheVariants as one_of7
use Rattle.cbor_parts.specs.declared.OneOf8.{OneOf8}
use Rattle.cbor_parts.specs.declared.OneOf8.TheVariants as one_of8

-- what a variant of this number and this name is written as
abbrev pub ByPlace : Type 0 → Type 0
ByPlace V = ℕ → List ℕ → V → Doc

abbrev pub document1 : {A : Type 0} → ByPlace A
    → List (List ℕ) → OneOf1 A → Doc
document1 a names (one_of1.First x) = a 0 (name_in names 0) x

abbrev pub document2 : {A B : Type 0} → ByPlace A → ByPlace B
    → List (List ℕ) → OneOf2 A B → Doc
document2 a b names (one_of2.First x) = a 0 (name_in names 0) x
document2 a b names (one_of2.Second x) = b 1 (name_in names 1) x

abbrev pub document3 : {A B C : Type 0} → ByPlace A → ByPlace B → ByPlace C
    → List (List ℕ) → OneOf3 A B C → Doc
document3 a b c names (one_of3.First x) = a 0 (name_in names 0) x
document3 a b c names (one_of3.Second x) = b 1 (name_in names 1) x
document3 a b c names (one_of3.Third x) = c 2 (name_in names 2) x

abbrev pub document4 : {A B C D : Type 0} → ByPlace A → ByPlace B → ByPlace C → ByPlace D
    → List (List ℕ) → OneOf4 A B C D → Doc
document4 a b c d names (one_of4.First x) = a 0 (name_in names 0) x
document4 a b c d names (one_of4.Second x) = b 1 (name_in names 1) x
document4 a b c d names (one_of4.Third x) = c 2 (name_in names 2) x
document4 a b c d names (one_of4.Fourth x) = d 3 (name_in names 3) x

abbrev pub document5 : {A B C D E : Type 0} → ByPlace A → ByPlace B → ByPlace C → ByPlace D → ByPlace E
    → List (List ℕ) → OneOf5 A B C D E → Doc
document5 a b c d e names (one_of5.First x) = a 0 (name_in names 0) x
document5 a b c d e names (one_of5.Second x) = b 1 (name_in names 1) x
document5 a b c d e names (one_of5.Third x) = c 2 (name_in names 2) x
document5 a b c d e names (one_of5.Fourth x) = d 3 (name_in names 3) x
document5 a b c d e names (one_of5.Fifth x) = e 4 (name_in names 4) x

abbrev pub document6 : {A B C D E F : Type 0} → ByPlace A → ByPlace B → ByPlace C → ByPlace D → ByPlace E → ByPlace F
    → List (List ℕ) → OneOf6 A B C D E F → Doc
document6 a b c d e f names (one_of6.First x) = a 0 (name_in names 0) x
document6 a b c d e f names (one_of6.Second x) = b 1 (name_in names 1) x
document6 a b c d e f names (one_of6.Third x) = c 2 (name_in names 2) x
document6 a b c d e f names (one_of6.Fourth x) = d 3 (name_in names 3) x
document6 a b c d e f names (one_of6.Fifth x) = e 4 (name_in names 4) x
document6 a b c d e f names (one_of6.Sixth x) = f 5 (name_in names 5) x

abbrev pub document7 : {A B C D E F G : Type 0} → ByPlace A → ByPlace B → ByPlace C → ByPlace D → ByPlace E → ByPlace F → ByPlace G
    → List (List ℕ) → OneOf7 A B C D E F G → Doc
document7 a b c d e f g names (one_of7.First x) = a 0 (name_in names 0) x
document7 a b c d e f g names (one_of7.Second x) = b 1 (name_in names 1) x
document7 a b c d e f g names (one_of7.Third x) = c 2 (name_in names 2) x
document7 a b c d e f g names (one_of7.Fourth x) = d 3 (name_in names 3) x
document7 a b c d e f g names (one_of7.Fifth x) = e 4 (name_in names 4) x
document7 a b c d e f g names (one_of7.Sixth x) = f 5 (name_in names 5) x
document7 a b c d e f g names (one_of7.Seventh x) = g 6 (name_in names 6) x

abbrev pub document8 : {A B C D E F G H : Type 0} → ByPlace A → ByPlace B → ByPlace C → ByPlace D → ByPlace E → ByPlace F → ByPlace G → ByPlace H
    → List (List ℕ) → OneOf8 A B C D E F G H → Doc
document8 a b c d e f g h names (one_of8.First x) = a 0 (name_in names 0) x
document8 a b c d e f g h names (one_of8.Second x) = b 1 (name_in names 1) x
document8 a b c d e f g h names (one_of8.Third x) = c 2 (name_in names 2) x
document8 a b c d e f g h names (one_of8.Fourth x) = d 3 (name_in names 3) x
document8 a b c d e f g h names (one_of8.Fifth x) = e 4 (name_in names 4) x
document8 a b c d e f g h names (one_of8.Sixth x) = f 5 (name_in names 5) x
document8 a b c d e f g h names (one_of8.Seventh x) = g 6 (name_in names 6) x
document8 a b c d e f g h names (one_of8.Eighth x) = h 7 (name_in names 7) x
