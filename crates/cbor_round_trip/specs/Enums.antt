-- The document of an enum is that of its variants as a list.
use Rattle.std.specs.Prelude.{◌≡◌, ℕ, List, refl}
use Rattle.cbor_ser.specs.OneOfs.{ByPlace, document1, document2, document3, document4, document5, document6, document7, document8}
use Rattle.cbor_described.specs.OneOfs.{list1, list2, list3, list4, list5, list6, list7, list8}
use Rattle.cbor_parts.specs.declared.OneOf1.{OneOf1}
use Rattle.cbor_parts.specs.declared.OneOf1.TheVariants as one_of1
use Rattle.cbor_parts.specs.declared.OneOf2.{OneOf2}
use Rattle.cbor_parts.specs.declared.OneOf2.TheVariants as one_of2
use Rattle.cbor_parts.specs.declared.OneOf3.{OneOf3}
use Rattle.cbor_parts.specs.declared.OneOf3.TheVariants as one_of3
use Rattle.cbor_parts.specs.declared.OneOf4.{OneOf4}
use Rattle.cbor_parts.specs.declared.OneOf4.TheVariants as one_of4
use Rattle.cbor_parts.specs.declared.OneOf5.{OneOf5}
use Rattle.cbor_parts.specs.declared.OneOf5.TheVariants as one_of5
use Rattle.cbor_parts.specs.declared.OneOf6.{OneOf6}
use Rattle.cbor_parts.specs.declared.OneOf6.TheVariants as one_of6
use Rattle.cbor_parts.specs.declared.OneOf7.{OneOf7}
use Rattle.cbor_parts.specs.declared.OneOf7.TheVariants as one_of7
use Rattle.cbor_parts.specs.declared.OneOf8.{OneOf8}
use Rattle.cbor_parts.specs.declared.OneOf8.TheVariants as one_of8
use Rattle.cbor_round_trip.specs.Variants.{either_document, never_document}

pub same1 : {A : Type 0} (a : ByPlace A) (names : List (List ℕ)) (x : OneOf1 A)
    → document1 a names x ≡ either_document a never_document names 0 (list1 x)
same1 a names (one_of1.First x) = refl

pub same2 : {A B : Type 0} (a : ByPlace A) (b : ByPlace B) (names : List (List ℕ)) (x : OneOf2 A B)
    → document2 a b names x ≡ either_document a (either_document b never_document) names 0 (list2 x)
same2 a b names (one_of2.First x) = refl
same2 a b names (one_of2.Second x) = refl

pub same3 : {A B C : Type 0} (a : ByPlace A) (b : ByPlace B) (c : ByPlace C) (names : List (List ℕ)) (x : OneOf3 A B C)
    → document3 a b c names x ≡ either_document a (either_document b (either_document c never_document)) names 0 (list3 x)
same3 a b c names (one_of3.First x) = refl
same3 a b c names (one_of3.Second x) = refl
same3 a b c names (one_of3.Third x) = refl

pub same4 : {A B C D : Type 0} (a : ByPlace A) (b : ByPlace B) (c : ByPlace C) (d : ByPlace D) (names : List (List ℕ)) (x : OneOf4 A B C D)
    → document4 a b c d names x ≡ either_document a (either_document b (either_document c (either_document d never_document))) names 0 (list4 x)
same4 a b c d names (one_of4.First x) = refl
same4 a b c d names (one_of4.Second x) = refl
same4 a b c d names (one_of4.Third x) = refl
same4 a b c d names (one_of4.Fourth x) = refl

pub same5 : {A B C D E : Type 0} (a : ByPlace A) (b : ByPlace B) (c : ByPlace C) (d : ByPlace D) (e : ByPlace E) (names : List (List ℕ)) (x : OneOf5 A B C D E)
    → document5 a b c d e names x ≡ either_document a (either_document b (either_document c (either_document d (either_document e never_document)))) names 0 (list5 x)
same5 a b c d e names (one_of5.First x) = refl
same5 a b c d e names (one_of5.Second x) = refl
same5 a b c d e names (one_of5.Third x) = refl
same5 a b c d e names (one_of5.Fourth x) = refl
same5 a b c d e names (one_of5.Fifth x) = refl

pub same6 : {A B C D E F : Type 0} (a : ByPlace A) (b : ByPlace B) (c : ByPlace C) (d : ByPlace D) (e : ByPlace E) (f : ByPlace F) (names : List (List ℕ)) (x : OneOf6 A B C D E F)
    → document6 a b c d e f names x ≡ either_document a (either_document b (either_document c (either_document d (either_document e (either_document f never_document))))) names 0 (list6 x)
same6 a b c d e f names (one_of6.First x) = refl
same6 a b c d e f names (one_of6.Second x) = refl
same6 a b c d e f names (one_of6.Third x) = refl
same6 a b c d e f names (one_of6.Fourth x) = refl
same6 a b c d e f names (one_of6.Fifth x) = refl
same6 a b c d e f names (one_of6.Sixth x) = refl

pub same7 : {A B C D E F G : Type 0} (a : ByPlace A) (b : ByPlace B) (c : ByPlace C) (d : ByPlace D) (e : ByPlace E) (f : ByPlace F) (g : ByPlace G) (names : List (List ℕ)) (x : OneOf7 A B C D E F G)
    → document7 a b c d e f g names x ≡ either_document a (either_document b (either_document c (either_document d (either_document e (either_document f (either_document g never_document)))))) names 0 (list7 x)
same7 a b c d e f g names (one_of7.First x) = refl
same7 a b c d e f g names (one_of7.Second x) = refl
same7 a b c d e f g names (one_of7.Third x) = refl
same7 a b c d e f g names (one_of7.Fourth x) = refl
same7 a b c d e f g names (one_of7.Fifth x) = refl
same7 a b c d e f g names (one_of7.Sixth x) = refl
same7 a b c d e f g names (one_of7.Seventh x) = refl

pub same8 : {A B C D E F G H : Type 0} (a : ByPlace A) (b : ByPlace B) (c : ByPlace C) (d : ByPlace D) (e : ByPlace E) (f : ByPlace F) (g : ByPlace G) (h : ByPlace H) (names : List (List ℕ)) (x : OneOf8 A B C D E F G H)
    → document8 a b c d e f g h names x ≡ either_document a (either_document b (either_document c (either_document d (either_document e (either_document f (either_document g (either_document h never_document))))))) names 0 (list8 x)
same8 a b c d e f g h names (one_of8.First x) = refl
same8 a b c d e f g h names (one_of8.Second x) = refl
same8 a b c d e f g h names (one_of8.Third x) = refl
same8 a b c d e f g h names (one_of8.Fourth x) = refl
same8 a b c d e f g h names (one_of8.Fifth x) = refl
same8 a b c d e f g h names (one_of8.Sixth x) = refl
same8 a b c d e f g h names (one_of8.Seventh x) = refl
same8 a b c d e f g h names (one_of8.Eighth x) = refl
