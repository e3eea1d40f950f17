-- Scalars and strings are read back.
use Rattle.std.proofs.Common.{◌≡◌, ℕ, ◌≤◌, List, length, Bool, true, false, T, ℤ, pos, negsuc, refl, ap, sym, ◌∙◌}
use Rattle.std.specs.Char.{IsScalar, encode_utf8}
use Rattle.std.specs.Float.{binary32, binary64}
use Rattle.std.specs.Float.Ieee.{fits, to_bits}
use Rattle.std.specs.Prelude.{String}
use Rattle.std.specs.String.{string_bytes}
use Rattle.std.proofs.lemmas.Str.{IsUtf8-encode, IsUtf8-string_bytes}
use lib.Ieee.Bits.{of_bits-to_bits}
use Rattle.cbor_model.specs.Raw as raw
use Rattle.cbor_model.specs.Raw.{Raw, FloatWidth}
use Rattle.cbor_model.specs.Document.{Doc, null, bool, integer, float, bytes, text, raw_of, document_of}
use Rattle.cbor_model.specs.Readable.{PassesTags, IsBool, IsUnit, IsInteger, IsFromZero, IsSigned, IsWithin, IsText, untagged}
use Rattle.cbor_value.specs.View.{float_view}
use Rattle.cbor_value.specs.declared.Float.{Float}
use Rattle.cbor_value.specs.declared.Float.TheVariants.{Half, Single, Double}
use Rattle.cbor_decode_as.specs.Scalars.{IsFloatItem, IsFloatOf, IsSingleOf}
use Rattle.cbor_decode_as.specs.Strings.{IsByteString, IsByteArray, IsCharacter}
use Rattle.cbor_round_trip.specs.OneReading.{one_bool, one_integer, one_number, one_string, one_byte_string}
use Rattle.cbor_round_trip.specs.ReadBack.{IsReadBack}

-- ---- simple values

bool_itself : (b p g : Bool) → PassesTags IsBool (raw_of (bool b) p g) b
unfolding raw_of
bool_itself false p g = refl
bool_itself true p g = refl

bool_alone : (b c p g : Bool) → PassesTags IsBool (raw_of (bool b) p g) c → bool c ≡ bool b
unfolding raw_of
bool_alone false c p g h = ap bool h
bool_alone true c p g h = ap bool h

pub bool_back : IsReadBack bool (λ c. PassesTags IsBool) (λ b. Unit {0}) (Unit {0})
bool_back = record {
  itself = λ b fit l p g. bool_itself b p g;
  alone = λ b c fit l p g h. bool_alone b c p g h;
  single = λ d c r x y h k. ap bool (one_bool (untagged r) x y h k);
}

pub unit_back : IsReadBack (λ u. null) (λ c. PassesTags IsUnit) (λ u. Unit {0}) (Unit {0})
unfolding raw_of
unit_back = record { itself = λ u fit l p g. tt; alone = λ u v fit l p g h. refl; single = λ d c r u v h k. refl }

-- ---- whole numbers

integer_itself : (z : ℤ) (p g : Bool) → PassesTags IsInteger (raw_of (integer z) p g) z
unfolding raw_of
integer_itself (pos n) p g = refl
integer_itself (negsuc n) p g = refl

integer_alone : (z y : ℤ) (p g : Bool) → PassesTags IsInteger (raw_of (integer z) p g) y
    → integer y ≡ integer z
unfolding raw_of
integer_alone (pos n) y p g h = ap integer h
integer_alone (negsuc n) y p g h = ap integer h

pub integer_back : IsReadBack integer (λ c. PassesTags IsInteger) (λ z. Unit {0}) (Unit {0})
integer_back = record {
  itself = λ z fit l p g. integer_itself z p g;
  alone = λ z y fit l p g h. integer_alone z y p g h;
  single = λ d c r y z h k. ap integer (one_integer (untagged r) y z h k);
}

pub from_zero_back : (most : ℕ)
    → IsReadBack (λ n. integer (pos n)) (λ c. PassesTags (IsFromZero most)) (λ n. n ≤ most) (Unit {0})
from_zero_back most = record {
  itself = λ n fit l p g. (integer_itself (pos n) p g, fit);
  alone = λ n m fit l p g h. integer_alone (pos n) (pos m) p g h.0;
  single = λ d c r n m h k. ap integer (one_integer (untagged r) (pos n) (pos m) h.0 k.0);
}

pub signed_back : (most : ℕ)
    → IsReadBack integer (λ c. PassesTags (IsSigned most)) (IsWithin most) (Unit {0})
signed_back most = record {
  itself = λ z fit l p g. (integer_itself z p g, fit);
  alone = λ z y fit l p g h. integer_alone z y p g h.0;
  single = λ d c r y z h k. ap integer (one_integer (untagged r) y z h.0 k.0);
}

-- ---- floats

float_itself : (f : Float) (p g : Bool) → PassesTags IsFloatItem (raw_of (document_of (float_view f)) p g) f
unfolding raw_of document_of
float_itself (Half n) p g = refl
float_itself (Single n) p g = refl
float_itself (Double n) p g = refl

abbrev of_parts : FloatWidth × ℕ → Doc
of_parts f = float f.0 f.1

float_document : (f : Float) (w : FloatWidth) (n : ℕ) → IsFloatItem (raw.float w n) f
    → document_of (float_view f) ≡ float w n
unfolding document_of
float_document (Half m) w n h = ap of_parts h
float_document (Single m) w n h = ap of_parts h
float_document (Double m) w n h = ap of_parts h

float_alone : (f e : Float) (p g : Bool)
    → PassesTags IsFloatItem (raw_of (document_of (float_view f)) p g) e
    → document_of (float_view e) ≡ document_of (float_view f)
unfolding raw_of document_of
float_alone (Half n) e p g h = float_document e raw.half n h
float_alone (Single n) e p g h = float_document e raw.single n h
float_alone (Double n) e p g h = float_document e raw.double n h

one_float_document : (r : Raw) (f e : Float) → IsFloatItem r f → IsFloatItem r e
    → document_of (float_view f) ≡ document_of (float_view e)
one_float_document (raw.float w n) f e h k = float_document f w n h ∙ sym (float_document e w n k)
one_float_document _ f e h k = absurd h

pub float_back : IsReadBack (λ f. document_of (float_view f)) (λ c. PassesTags IsFloatItem) (λ f. Unit {0}) (Unit {0})
float_back = record {
  itself = λ f fit l p g. float_itself f p g;
  alone = λ f e fit l p g h. float_alone f e p g h;
  single = λ d c r f e h k. one_float_document (untagged r) f e h k;
}

pub single_back : IsReadBack (λ x. float raw.single (to_bits binary32 x)) (λ c. PassesTags IsSingleOf) (λ x. T (fits binary32 x)) (Unit {0})
unfolding raw_of
single_back = record {
  itself = λ x fit l p g. (of_bits-to_bits binary32 x fit, fit);
  alone = λ x y fit l p g h.
      ap (λ z. float raw.single (to_bits binary32 z)) (sym h.0 ∙ of_bits-to_bits binary32 x fit);
  single = λ d c r x y h k. ap (λ z. float raw.single (to_bits binary32 z)) (one_number (untagged r) x y h.0 k.0);
}

pub double_back : IsReadBack (λ x. float raw.double (to_bits binary64 x)) (λ c. PassesTags IsFloatOf) (λ x. T (fits binary64 x)) (Unit {0})
unfolding raw_of
double_back = record {
  itself = λ x fit l p g. of_bits-to_bits binary64 x fit;
  alone = λ x y fit l p g h.
      ap (λ z. float raw.double (to_bits binary64 z)) (sym h ∙ of_bits-to_bits binary64 x fit);
  single = λ d c r x y h k. ap (λ z. float raw.double (to_bits binary64 z)) (one_number (untagged r) x y h k);
}

-- ---- strings

pub char_back : IsReadBack (λ c. text (encode_utf8 c)) (λ c. PassesTags IsCharacter) IsScalar (Unit {0})
unfolding raw_of
char_back = record {
  itself = λ c fit l p g. (fit, (refl, IsUtf8-encode c fit));
  alone = λ c d fit l p g h. ap text (sym h.1.0);
  single = λ d c r x y h k. ap text (one_string (untagged r) (encode_utf8 x) (encode_utf8 y) h.1.0 k.1.0);
}

pub text_back : {Z : Type 0} → IsReadBack (λ (s : String Z). text (string_bytes s)) (λ c. PassesTags (λ r s. IsText r (string_bytes s))) (λ s. Unit {0}) (Unit {0})
unfolding raw_of
text_back = record {
  itself = λ s fit l p g. (refl, IsUtf8-string_bytes s);
  alone = λ s t fit l p g h. ap text (sym h.0);
  single = λ d c r s t h k. ap text (one_string (untagged r) (string_bytes s) (string_bytes t) h.0 k.0);
}

pub bytes_back : {A : Type 0} {items : A → List ℕ}
    → IsReadBack (λ b. bytes (items b)) (λ c. PassesTags (λ r b. IsByteString r (items b))) (λ b. Unit {0}) (Unit {0})
unfolding raw_of
bytes_back {items = items} = record {
  itself = λ b fit l p g. refl;
  alone = λ b d fit l p g h. ap bytes (sym h);
  single = λ d c r a b h k. ap bytes (one_byte_string (untagged r) (items a) (items b) h k);
}

pub byte_array_back : {A : Type 0} {n : ℕ} {items : A → List ℕ}
    → IsReadBack (λ b. bytes (items b)) (λ c. PassesTags (λ r b. IsByteArray n r (items b))) (λ b. length (items b) ≡ n) (Unit {0})
unfolding raw_of
byte_array_back {items = items} = record {
  itself = λ b fit l p g. (refl, fit);
  alone = λ b d fit l p g h. ap bytes (sym h.0);
  single = λ d c r a b h k. ap bytes (one_byte_string (untagged r) (items a) (items b) h.0 k.0);
}
