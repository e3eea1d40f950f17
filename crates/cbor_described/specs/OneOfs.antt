-- Enums that are read by their variants.
use Rattle.std.specs.Prelude.{ℕ, zero, suc}
use Rattle.cbor_decode_as.specs.Enums.{Content}
use Rattle.cbor_described.specs.declared.variant_list.OneOf.{OneOf}
use Rattle.cbor_described.specs.declared.variant_list.OneOf.TheVariants.{This, Other}
use Rattle.cbor_described.specs.declared.variant_list.Never.{Never}
use Rattle.cbor_parts.specs.declared.OneOf1.{OneOf1}
use Rattle.cbor_parts.specs.declared.OneOf1.TheVariants as one_of1
use Rattle.cbor_parts.specs.declared.OneOf2.{OneOf2}
use Rattle.cbor_parts.specs.declared.OneOf2.TheVariants as one_of2
use Rattle.cbor_parts.specs.declared.OneOf3.{OneOf3}
use Rattle.cbor_parts.specs.declared.OneOf3.TheVariants as one_of3
use Rattle.cbor_parts.specs.declared.OneOf4.{OneOf4}
use Rattle.cbor_parts.specs.declared.OneOf4.TheVariants as one_of4
use Rattle.cbor_parts.specs.declared.OneOf5.{OneOf5}
use Rattle.cbor_parts.specs.declared.OneOf5.TheVariants as one_of5
use Rattle.cbor_parts.specs.declared.OneOf6.{OneOf6}
use Rattle.cbor_parts.specs.declared.OneOf6.TheVariants as one_of6
use Rattle.cbor_parts.specs.declared.OneOf7.{OneOf7}
use Rattle.cbor_parts.specs.declared.OneOf7.TheVariants as one_of7
use Rattle.cbor_parts.specs.declared.OneOf8.{OneOf8}
use Rattle.cbor_parts.specs.declared.OneOf8.TheVariants as one_of8

-- the first variant's content means this, and another's one of those
abbrev pub either : {V W : Type 0} → (Content → V → Type 0) → (ℕ → Content → W → Type 0) → ℕ → Content
    → OneOf V W → Type 0
either this those zero c (This v) = this c v
either this those zero c (Other w) = ⊥
either this those (suc i) c (This v) = ⊥
either this those (suc i) c (Other w) = those i c w

-- no variant is left
abbrev pub no_variant : ℕ → Content → Never → Type 0
no_variant i content x = ⊥

-- the variants of an enum as the first, or one of the others
abbrev pub list1 : {A : Type 0} → OneOf1 A
    → OneOf A Never
list1 (one_of1.First x) = This x

abbrev pub list2 : {A B : Type 0} → OneOf2 A B
    → OneOf A (OneOf B Never)
list2 (one_of2.First x) = This x
list2 (one_of2.Second x) = Other (This x)

abbrev pub list3 : {A B C : Type 0} → OneOf3 A B C
    → OneOf A (OneOf B (OneOf C Never))
list3 (one_of3.First x) = This x
list3 (one_of3.Second x) = Other (This x)
list3 (one_of3.Third x) = Other (Other (This x))

abbrev pub list4 : {A B C D : Type 0} → OneOf4 A B C D
    → OneOf A (OneOf B (OneOf C (OneOf D Never)))
list4 (one_of4.First x) = This x
list4 (one_of4.Second x) = Other (This x)
list4 (one_of4.Third x) = Other (Other (This x))
list4 (one_of4.Fourth x) = Other (Other (Other (This x)))

abbrev pub list5 : {A B C D E : Type 0} → OneOf5 A B C D E
    → OneOf A (OneOf B (OneOf C (OneOf D (OneOf E Never))))
list5 (one_of5.First x) = This x
list5 (one_of5.Second x) = Other (This x)
list5 (one_of5.Third x) = Other (Other (This x))
list5 (one_of5.Fourth x) = Other (Other (Other (This x)))
list5 (one_of5.Fifth x) = Other (Other (Other (Other (This x))))

abbrev pub list6 : {A B C D E F : Type 0} → OneOf6 A B C D E F
    → OneOf A (OneOf B (OneOf C (OneOf D (OneOf E (OneOf F Never)))))
list6 (one_of6.First x) = This x
list6 (one_of6.Second x) = Other (This x)
list6 (one_of6.Third x) = Other (Other (This x))
list6 (one_of6.Fourth x) = Other (Other (Other (This x)))
list6 (one_of6.Fifth x) = Other (Other (Other (Other (This x))))
list6 (one_of6.Sixth x) = Other (Other (Other (Other (Other (This x)))))

abbrev pub list7 : {A B C D E F G : Type 0} → OneOf7 A B C D E F G
    → OneOf A (OneOf B (OneOf C (OneOf D (OneOf E (OneOf F (OneOf G Never))))))
list7 (one_of7.First x) = This x
list7 (one_of7.Second x) = Other (This x)
list7 (one_of7.Third x) = Other (Other (This x))
list7 (one_of7.Fourth x) = Other (Other (Other (This x)))
list7 (one_of7.Fifth x) = Other (Other (Other (Other (This x))))
list7 (one_of7.Sixth x) = Other (Other (Other (Other (Other (This x)))))
list7 (one_of7.Seventh x) = Other (Other (Other (Other (Other (Other (This x))))))

abbrev pub list8 : {A B C D E F G H : Type 0} → OneOf8 A B C D E F G H
    → OneOf A (OneOf B (OneOf C (OneOf D (OneOf E (OneOf F (OneOf G (OneOf H Never)))))))
list8 (one_of8.First x) = This x
list8 (one_of8.Second x) = Other (This x)
list8 (one_of8.Third x) = Other (Other (This x))
list8 (one_of8.Fourth x) = Other (Other (Other (This x)))
list8 (one_of8.Fifth x) = Other (Other (Other (Other (This x))))
list8 (one_of8.Sixth x) = Other (Other (Other (Other (Other (This x)))))
list8 (one_of8.Seventh x) = Other (Other (Other (Other (Other (Other (This x))))))
list8 (one_of8.Eighth x) = Other (Other (Other (Other (Other (Other (Other (This x)))))))
