-- The laws of tuples and of enums by description, made of those of their parts. (A tuple of one part
-- has its law where it is a tuple.)
use Rattle.std.specs.Prelude.{refl}
use Rattle.cbor_parts.specs.declared.OneOf1.{OneOf1}
use Rattle.cbor_parts.specs.declared.OneOf2.{OneOf2}
use Rattle.cbor_parts.specs.declared.OneOf3.{OneOf3}
use Rattle.cbor_parts.specs.declared.OneOf4.{OneOf4}
use Rattle.cbor_parts.specs.declared.OneOf5.{OneOf5}
use Rattle.cbor_parts.specs.declared.OneOf6.{OneOf6}
use Rattle.cbor_parts.specs.declared.OneOf7.{OneOf7}
use Rattle.cbor_parts.specs.declared.OneOf8.{OneOf8}
use Rattle.cbor_round_trip.specs.Enums.{same1, same2, same3, same4, same5, same6, same7, same8}
use Rattle.cbor_round_trip.specs.StructFields.{field_back, last_field_back}
use Rattle.cbor_round_trip.specs.Lists.{last_back, part_back}
use Rattle.cbor_round_trip.specs.TypeLaws.{Law, FieldLaw, FieldsLaw, struct_law, TupleLaw, tuple_law, PartsLaw, parts_law, VariantLaw}
use Rattle.cbor_round_trip.specs.Variants.{enum_back, no_variants_back, variant_back}

-- ---- the fields of a struct, which are read as nested lists of four

abbrev pub fields2 : {A B : Type 0} → FieldLaw A → FieldLaw B
    → FieldsLaw (A × B)
fields2 {A} {B} a b = struct_law 2 (field_back {S = A × (B × Unit {0})} {view = λ x. (x.0, (x.1, tt))} {of = λ p. p.0} a.back (last_field_back {of = λ p. p.1.0} b.back)) (λ t. refl)

abbrev pub fields3 : {A B C : Type 0} → FieldLaw A → FieldLaw B → FieldLaw C
    → FieldsLaw (A × B × C)
fields3 {A} {B} {C} a b c = struct_law 3 (field_back {S = A × (B × (C × Unit {0}))} {view = λ x. (x.0, (x.1, (x.2, tt)))} {of = λ p. p.0} a.back (field_back {of = λ p. p.1.0} b.back (last_field_back {of = λ p. p.1.1.0} c.back))) (λ t. refl)

abbrev pub fields4 : {A B C D : Type 0} → FieldLaw A → FieldLaw B → FieldLaw C → FieldLaw D
    → FieldsLaw (A × B × C × D)
fields4 {A} {B} {C} {D} a b c d = struct_law 4 (field_back {S = A × B × C × D × Unit {0}} {view = λ x. (x.0, x.1, x.2, x.3, tt)} {of = λ p. p.0} a.back (field_back {of = λ p. p.1} b.back (field_back {of = λ p. p.2} c.back (last_field_back {of = λ p. p.3} d.back)))) (λ t. refl)

abbrev pub fields5 : {A B C D E : Type 0} → FieldLaw A → FieldLaw B → FieldLaw C → FieldLaw D → FieldLaw E
    → FieldsLaw (A × B × C × D × E)
fields5 {A} {B} {C} {D} {E} a b c d e = struct_law 5 (field_back {S = A × B × C × D × (E × Unit {0})} {view = λ x. (x.0, x.1, x.2, x.3, (x.4, tt))} {of = λ p. p.0} a.back (field_back {of = λ p. p.1} b.back (field_back {of = λ p. p.2} c.back (field_back {of = λ p. p.3} d.back (last_field_back {of = λ p. p.4.0} e.back))))) (λ t. refl)

abbrev pub fields6 : {A B C D E F : Type 0} → FieldLaw A → FieldLaw B → FieldLaw C → FieldLaw D → FieldLaw E → FieldLaw F
    → FieldsLaw (A × B × C × D × E × F)
fields6 {A} {B} {C} {D} {E} {F} a b c d e f = struct_law 6 (field_back {S = A × B × C × D × (E × (F × Unit {0}))} {view = λ x. (x.0, x.1, x.2, x.3, (x.4, (x.5, tt)))} {of = λ p. p.0} a.back (field_back {of = λ p. p.1} b.back (field_back {of = λ p. p.2} c.back (field_back {of = λ p. p.3} d.back (field_back {of = λ p. p.4.0} e.back (last_field_back {of = λ p. p.4.1.0} f.back)))))) (λ t. refl)

abbrev pub fields7 : {A B C D E F G : Type 0} → FieldLaw A → FieldLaw B → FieldLaw C → FieldLaw D → FieldLaw E → FieldLaw F → FieldLaw G
    → FieldsLaw (A × B × C × D × E × F × G)
fields7 {A} {B} {C} {D} {E} {F} {G} a b c d e f g = struct_law 7 (field_back {S = A × B × C × D × (E × (F × (G × Unit {0})))} {view = λ x. (x.0, x.1, x.2, x.3, (x.4, (x.5, (x.6, tt))))} {of = λ p. p.0} a.back (field_back {of = λ p. p.1} b.back (field_back {of = λ p. p.2} c.back (field_back {of = λ p. p.3} d.back (field_back {of = λ p. p.4.0} e.back (field_back {of = λ p. p.4.1.0} f.back (last_field_back {of = λ p. p.4.1.1.0} g.back))))))) (λ t. refl)

abbrev pub fields8 : {A B C D E F G H : Type 0} → FieldLaw A → FieldLaw B → FieldLaw C → FieldLaw D → FieldLaw E → FieldLaw F → FieldLaw G → FieldLaw H
    → FieldsLaw (A × B × C × D × E × F × G × H)
fields8 {A} {B} {C} {D} {E} {F} {G} {H} a b c d e f g h = struct_law 8 (field_back {S = A × B × C × D × (E × F × G × H × Unit {0})} {view = λ x. (x.0, x.1, x.2, x.3, (x.4, x.5, x.6, x.7, tt))} {of = λ p. p.0} a.back (field_back {of = λ p. p.1} b.back (field_back {of = λ p. p.2} c.back (field_back {of = λ p. p.3} d.back (field_back {of = λ p. p.4.0} e.back (field_back {of = λ p. p.4.1} f.back (field_back {of = λ p. p.4.2} g.back (last_field_back {of = λ p. p.4.3} h.back)))))))) (λ t. refl)

abbrev pub fields9 : {A B C D E F G H I : Type 0} → FieldLaw A → FieldLaw B → FieldLaw C → FieldLaw D → FieldLaw E → FieldLaw F → FieldLaw G → FieldLaw H → FieldLaw I
    → FieldsLaw (A × B × C × D × E × F × G × H × I)
fields9 {A} {B} {C} {D} {E} {F} {G} {H} {I} a b c d e f g h i = struct_law 9 (field_back {S = A × B × C × D × (E × F × G × H × (I × Unit {0}))} {view = λ x. (x.0, x.1, x.2, x.3, (x.4, x.5, x.6, x.7, (x.8, tt)))} {of = λ p. p.0} a.back (field_back {of = λ p. p.1} b.back (field_back {of = λ p. p.2} c.back (field_back {of = λ p. p.3} d.back (field_back {of = λ p. p.4.0} e.back (field_back {of = λ p. p.4.1} f.back (field_back {of = λ p. p.4.2} g.back (field_back {of = λ p. p.4.3} h.back (last_field_back {of = λ p. p.4.4.0} i.back))))))))) (λ t. refl)

abbrev pub fields10 : {A B C D E F G H I J : Type 0} → FieldLaw A → FieldLaw B → FieldLaw C → FieldLaw D → FieldLaw E → FieldLaw F → FieldLaw G → FieldLaw H → FieldLaw I → FieldLaw J
    → FieldsLaw (A × B × C × D × E × F × G × H × I × J)
fields10 {A} {B} {C} {D} {E} {F} {G} {H} {I} {J} a b c d e f g h i j = struct_law 10 (field_back {S = A × B × C × D × (E × F × G × H × (I × (J × Unit {0})))} {view = λ x. (x.0, x.1, x.2, x.3, (x.4, x.5, x.6, x.7, (x.8, (x.9, tt))))} {of = λ p. p.0} a.back (field_back {of = λ p. p.1} b.back (field_back {of = λ p. p.2} c.back (field_back {of = λ p. p.3} d.back (field_back {of = λ p. p.4.0} e.back (field_back {of = λ p. p.4.1} f.back (field_back {of = λ p. p.4.2} g.back (field_back {of = λ p. p.4.3} h.back (field_back {of = λ p. p.4.4.0} i.back (last_field_back {of = λ p. p.4.4.1.0} j.back)))))))))) (λ t. refl)

abbrev pub fields11 : {A B C D E F G H I J K : Type 0} → FieldLaw A → FieldLaw B → FieldLaw C → FieldLaw D → FieldLaw E → FieldLaw F → FieldLaw G → FieldLaw H → FieldLaw I → FieldLaw J → FieldLaw K
    → FieldsLaw (A × B × C × D × E × F × G × H × I × J × K)
fields11 {A} {B} {C} {D} {E} {F} {G} {H} {I} {J} {K} a b c d e f g h i j k = struct_law 11 (field_back {S = A × B × C × D × (E × F × G × H × (I × (J × (K × Unit {0}))))} {view = λ x. (x.0, x.1, x.2, x.3, (x.4, x.5, x.6, x.7, (x.8, (x.9, (x.10, tt)))))} {of = λ p. p.0} a.back (field_back {of = λ p. p.1} b.back (field_back {of = λ p. p.2} c.back (field_back {of = λ p. p.3} d.back (field_back {of = λ p. p.4.0} e.back (field_back {of = λ p. p.4.1} f.back (field_back {of = λ p. p.4.2} g.back (field_back {of = λ p. p.4.3} h.back (field_back {of = λ p. p.4.4.0} i.back (field_back {of = λ p. p.4.4.1.0} j.back (last_field_back {of = λ p. p.4.4.1.1.0} k.back))))))))))) (λ t. refl)

abbrev pub fields12 : {A B C D E F G H I J K L : Type 0} → FieldLaw A → FieldLaw B → FieldLaw C → FieldLaw D → FieldLaw E → FieldLaw F → FieldLaw G → FieldLaw H → FieldLaw I → FieldLaw J → FieldLaw K → FieldLaw L
    → FieldsLaw (A × B × C × D × E × F × G × H × I × J × K × L)
fields12 {A} {B} {C} {D} {E} {F} {G} {H} {I} {J} {K} {L} a b c d e f g h i j k l = struct_law 12 (field_back {S = A × B × C × D × (E × F × G × H × (I × J × K × L × Unit {0}))} {view = λ x. (x.0, x.1, x.2, x.3, (x.4, x.5, x.6, x.7, (x.8, x.9, x.10, x.11, tt)))} {of = λ p. p.0} a.back (field_back {of = λ p. p.1} b.back (field_back {of = λ p. p.2} c.back (field_back {of = λ p. p.3} d.back (field_back {of = λ p. p.4.0} e.back (field_back {of = λ p. p.4.1} f.back (field_back {of = λ p. p.4.2} g.back (field_back {of = λ p. p.4.3} h.back (field_back {of = λ p. p.4.4.0} i.back (field_back {of = λ p. p.4.4.1} j.back (field_back {of = λ p. p.4.4.2} k.back (last_field_back {of = λ p. p.4.4.3} l.back)))))))))))) (λ t. refl)

-- ---- the parts of a variant

abbrev pub tuple2 : {A B : Type 0} → Law A → Law B
    → TupleLaw (A × B)
tuple2 a b = tuple_law (part_back {part = λ t. t.0} a.back (last_back {part = λ t. t.1} b.back))

abbrev pub tuple3 : {A B C : Type 0} → Law A → Law B → Law C
    → TupleLaw (A × B × C)
tuple3 a b c = tuple_law (part_back {part = λ t. t.0} a.back (part_back {part = λ t. t.1} b.back (last_back {part = λ t. t.2} c.back)))

abbrev pub tuple4 : {A B C D : Type 0} → Law A → Law B → Law C → Law D
    → TupleLaw (A × B × C × D)
tuple4 a b c d = tuple_law (part_back {part = λ t. t.0} a.back (part_back {part = λ t. t.1} b.back (part_back {part = λ t. t.2} c.back (last_back {part = λ t. t.3} d.back))))

abbrev pub tuple5 : {A B C D E : Type 0} → Law A → Law B → Law C → Law D → Law E
    → TupleLaw (A × B × C × D × E)
tuple5 a b c d e = tuple_law (part_back {part = λ t. t.0} a.back (part_back {part = λ t. t.1} b.back (part_back {part = λ t. t.2} c.back (part_back {part = λ t. t.3} d.back (last_back {part = λ t. t.4} e.back)))))

abbrev pub tuple6 : {A B C D E F : Type 0} → Law A → Law B → Law C → Law D → Law E → Law F
    → TupleLaw (A × B × C × D × E × F)
tuple6 a b c d e f = tuple_law (part_back {part = λ t. t.0} a.back (part_back {part = λ t. t.1} b.back (part_back {part = λ t. t.2} c.back (part_back {part = λ t. t.3} d.back (part_back {part = λ t. t.4} e.back (last_back {part = λ t. t.5} f.back))))))

abbrev pub tuple7 : {A B C D E F G : Type 0} → Law A → Law B → Law C → Law D → Law E → Law F → Law G
    → TupleLaw (A × B × C × D × E × F × G)
tuple7 a b c d e f g = tuple_law (part_back {part = λ t. t.0} a.back (part_back {part = λ t. t.1} b.back (part_back {part = λ t. t.2} c.back (part_back {part = λ t. t.3} d.back (part_back {part = λ t. t.4} e.back (part_back {part = λ t. t.5} f.back (last_back {part = λ t. t.6} g.back)))))))

abbrev pub tuple8 : {A B C D E F G H : Type 0} → Law A → Law B → Law C → Law D → Law E → Law F → Law G → Law H
    → TupleLaw (A × B × C × D × E × F × G × H)
tuple8 a b c d e f g h = tuple_law (part_back {part = λ t. t.0} a.back (part_back {part = λ t. t.1} b.back (part_back {part = λ t. t.2} c.back (part_back {part = λ t. t.3} d.back (part_back {part = λ t. t.4} e.back (part_back {part = λ t. t.5} f.back (part_back {part = λ t. t.6} g.back (last_back {part = λ t. t.7} h.back))))))))

-- ---- an enum, as one of its variants

abbrev pub enum1 : {A : Type 0} → VariantLaw A
    → PartsLaw (OneOf1 A)
enum1 a = parts_law 1 (enum_back (variant_back a.back no_variants_back) (same1 a.document))

abbrev pub enum2 : {A B : Type 0} → VariantLaw A → VariantLaw B
    → PartsLaw (OneOf2 A B)
enum2 a b = parts_law 2 (enum_back (variant_back a.back (variant_back b.back no_variants_back)) (same2 a.document b.document))

abbrev pub enum3 : {A B C : Type 0} → VariantLaw A → VariantLaw B → VariantLaw C
    → PartsLaw (OneOf3 A B C)
enum3 a b c = parts_law 3 (enum_back (variant_back a.back (variant_back b.back (variant_back c.back no_variants_back))) (same3 a.document b.document c.document))

abbrev pub enum4 : {A B C D : Type 0} → VariantLaw A → VariantLaw B → VariantLaw C → VariantLaw D
    → PartsLaw (OneOf4 A B C D)
enum4 a b c d = parts_law 4 (enum_back (variant_back a.back (variant_back b.back (variant_back c.back (variant_back d.back no_variants_back)))) (same4 a.document b.document c.document d.document))

abbrev pub enum5 : {A B C D E : Type 0} → VariantLaw A → VariantLaw B → VariantLaw C → VariantLaw D → VariantLaw E
    → PartsLaw (OneOf5 A B C D E)
enum5 a b c d e = parts_law 5 (enum_back (variant_back a.back (variant_back b.back (variant_back c.back (variant_back d.back (variant_back e.back no_variants_back))))) (same5 a.document b.document c.document d.document e.document))

abbrev pub enum6 : {A B C D E F : Type 0} → VariantLaw A → VariantLaw B → VariantLaw C → VariantLaw D → VariantLaw E → VariantLaw F
    → PartsLaw (OneOf6 A B C D E F)
enum6 a b c d e f = parts_law 6 (enum_back (variant_back a.back (variant_back b.back (variant_back c.back (variant_back d.back (variant_back e.back (variant_back f.back no_variants_back)))))) (same6 a.document b.document c.document d.document e.document f.document))

abbrev pub enum7 : {A B C D E F G : Type 0} → VariantLaw A → VariantLaw B → VariantLaw C → VariantLaw D → VariantLaw E → VariantLaw F → VariantLaw G
    → PartsLaw (OneOf7 A B C D E F G)
enum7 a b c d e f g = parts_law 7 (enum_back (variant_back a.back (variant_back b.back (variant_back c.back (variant_back d.back (variant_back e.back (variant_back f.back (variant_back g.back no_variants_back))))))) (same7 a.document b.document c.document d.document e.document f.document g.document))

abbrev pub enum8 : {A B C D E F G H : Type 0} → VariantLaw A → VariantLaw B → VariantLaw C → VariantLaw D → VariantLaw E → VariantLaw F → VariantLaw G → VariantLaw H
    → PartsLaw (OneOf8 A B C D E F G H)
enum8 a b c d e f g h = parts_law 8 (enum_back (variant_back a.back (variant_back b.back (variant_back c.back (variant_back d.back (variant_back e.back (variant_back f.back (variant_back g.back (variant_back h.back no_variants_back)))))))) (same8 a.document b.document c.document d.document e.document f.document g.document h.document))
