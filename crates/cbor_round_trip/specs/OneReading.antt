-- Of one item, one value is read: by each of the relations that types are read by.
use Rattle.std.proofs.Common.{◌≡◌, ◌∙◌, ℕ, ℤ, Bool, true, List, Some, None, sym, subst}
use Rattle.std.specs.Prelude.{if◌then◌else◌}
use Rattle.std.specs.Float.Ieee as ieee
use Rattle.cbor_model.specs.Formats.{Formats}
use Rattle.cbor_model.specs.Head.{no_bytes}
use Rattle.cbor_model.specs.Raw as raw
use Rattle.cbor_model.specs.Raw.{Raw, Raws, RawPairs, FloatWidth, no_raw_pairs, raw_pair}
use Rattle.cbor_model.specs.Readable.{IsBool, IsInteger, IsFloat, IsString, untagged}
use Rattle.cbor_decode_as.specs.Arrays.{AsArray}
use Rattle.cbor_decode_as.specs.Enums.{Content, alone, IsVariant, reads_names}
use Rattle.cbor_decode_as.specs.Identifiers.{IsFirst, IsIdentifier}
use Rattle.cbor_decode_as.specs.Maps.{AsMap}
use Rattle.cbor_decode_as.specs.Scalars.{IsFloatOf}
use Rattle.cbor_decode_as.specs.Strings.{IsByteString}
use Rattle.cbor_round_trip.specs.Names.{one_first}

-- ---- scalars and strings

pub one_bool : (r : Raw) (a b : Bool) → IsBool r a → IsBool r b → a ≡ b
one_bool (raw.simple raw.false_item) a b h k = h ∙ sym k
one_bool (raw.simple raw.true_item) a b h k = h ∙ sym k
one_bool _ a b h k = absurd h

pub one_integer : (r : Raw) (y z : ℤ) → IsInteger r y → IsInteger r z → y ≡ z
one_integer (raw.unsigned w n) y z h k = h ∙ sym k
one_integer (raw.negative w n) y z h k = h ∙ sym k
one_integer _ y z h k = absurd h

pub one_float : (r : Raw) (f g : FloatWidth × ℕ) → IsFloat r f → IsFloat r g → f ≡ g
one_float (raw.float w n) f g h k = h ∙ sym k
one_float _ f g h k = absurd h

pub one_number : (r : Raw) (x y : ieee.Float) → IsFloatOf r x → IsFloatOf r y → x ≡ y
one_number (raw.unsigned w n) x y h k = h.0 ∙ sym k.0
one_number (raw.negative w n) x y h k = h.0 ∙ sym k.0
one_number (raw.float w n) x y h k = sym h ∙ k
one_number _ x y h k = absurd h

pub one_string : (r : Raw) (a b : List ℕ) → IsString r a → IsString r b → a ≡ b
one_string (raw.bytes c) a b h k = sym h ∙ k
one_string (raw.text c) a b h k = sym h ∙ k
one_string (raw.bytes_chunks cs) a b h k = sym h ∙ k
one_string (raw.text_chunks cs) a b h k = sym h ∙ k
one_string _ a b h k = absurd h

pub one_byte_string : (r : Raw) (a b : List ℕ) → IsByteString r a → IsByteString r b → a ≡ b
one_byte_string (raw.bytes c) a b h k = sym h ∙ k
one_byte_string (raw.bytes_chunks cs) a b h k = sym h ∙ k
one_byte_string _ a b h k = absurd h

-- ---- arrays and maps

-- both are read of one array's items
pub in_array : {A : Type 0} (items : Raws → A → Type 0) (r : Raw) (x y : A) → AsArray items r x → AsArray items r y
    → (rs : Raws) × items rs x × items rs y
in_array items (raw.array l rs) x y h k = (rs, h, k)
in_array items _ x y h k = absurd h

-- both are read of one map's pairs
pub in_map : {A : Type 0} (pairs : RawPairs → A → Type 0) (r : Raw) (x y : A) → AsMap pairs r x → AsMap pairs r y
    → (rs : RawPairs) × pairs rs x × pairs rs y
in_map pairs (raw.map l rs) x y h k = (rs, h, k)
in_map pairs _ x y h k = absurd h

-- ---- identifiers and variants

some_place : (i k n : ℕ) (b : Bool) → Some i ≡ (if b then Some n else None) → Some k ≡ (if b then Some n else None) → i ≡ k
some_place i k n true h e = cc
some_place i k n _ h e = absurd cc

-- a name in two places
abbrev IsNamed : List (List ℕ) → Raw → ℕ → Type 0
IsNamed names r i = (b : List ℕ) × IsString r b × IsFirst names b i

one_name : (names : List (List ℕ)) (r : Raw) (i k : ℕ) → IsNamed names r i → IsNamed names r k → i ≡ k
one_name names r i k h e =
    one_first names h.0 i k h.2 (subst (λ (b : List ℕ). IsFirst names b k) (one_string r e.0 h.0 e.1 h.1) e.2)

pub one_identifier : (names : List (List ℕ)) (r : Raw) (i k : ℕ) → IsIdentifier names r (Some i) → IsIdentifier names r (Some k) → i ≡ k
one_identifier names (raw.unsigned w n) i k h e = some_place i k n _ h e
one_identifier names (raw.negative w n) i k h e = absurd h
one_identifier names (raw.bytes c) i k h e = one_name names (raw.bytes c) i k h e
one_identifier names (raw.text c) i k h e = one_name names (raw.text c) i k h e
one_identifier names (raw.bytes_chunks cs) i k h e = one_name names (raw.bytes_chunks cs) i k h e
one_identifier names (raw.text_chunks cs) i k h e = one_name names (raw.text_chunks cs) i k h e
one_identifier names _ i k h e = absurd h.1

-- one place and one content
abbrev AreOne : ℕ × Content → ℕ × Content → Type 0
AreOne v w = (v.0 ≡ w.0) × (v.1 ≡ w.1)

named_alone : (f : Formats) (names : List (List ℕ)) (r : Raw) (v w : ℕ × Content)
    → (reads_names f ≡ true) × IsIdentifier names r (Some v.0) × (v.1 ≡ alone)
    → (reads_names f ≡ true) × IsIdentifier names r (Some w.0) × (w.1 ≡ alone) → AreOne v w
named_alone f names r v w h k = (one_identifier names r v.0 w.0 h.1 k.1, h.2 ∙ sym k.2)

pub one_variant : (f : Formats) (names : List (List ℕ)) (r : Raw) (v w : ℕ × Content) → IsVariant f names r v → IsVariant f names r w → AreOne v w
one_variant f names (raw.array l (raw.raw r rs)) v w h k = (one_identifier names (untagged r) v.0 w.0 h.1 k.1, h.2 ∙ sym k.2)
one_variant f names (raw.map (raw.definite no_bytes) (raw_pair r u no_raw_pairs)) v w h k =
    (one_identifier names (untagged r) v.0 w.0 h.1 k.1, h.2 ∙ sym k.2)
one_variant f names (raw.unsigned x n) v w h k = named_alone f names (raw.unsigned x n) v w h k
one_variant f names (raw.bytes c) v w h k = named_alone f names (raw.bytes c) v w h k
one_variant f names (raw.text c) v w h k = named_alone f names (raw.text c) v w h k
one_variant f names (raw.bytes_chunks cs) v w h k = named_alone f names (raw.bytes_chunks cs) v w h k
one_variant f names (raw.text_chunks cs) v w h k = named_alone f names (raw.text_chunks cs) v w h k
one_variant f names (raw.negative x n) v w h k = absurd h.1
one_variant f names _ v w h k = absurd h.1.1
