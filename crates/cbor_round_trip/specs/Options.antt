-- What may be absent is read back, unless what is there is written as null.
use Rattle.std.proofs.Common.{◌≡◌, ◌≢◌, Bool, true, false, pos, negsuc, Option, Some, None, refl}
use Rattle.cbor_model.specs.Document.{Doc, null, bool, integer, float, bytes, text, sequence, mapping, structure, unit_variant, newtype_variant, tuple_variant, struct_variant, tagged, encoded, raw_of}
use Rattle.cbor_model.specs.Formats.{all_formats}
use Rattle.cbor_model.specs.Raw as raw
use Rattle.cbor_model.specs.Raw.{Raw, null_item}
use Rattle.cbor_model.specs.Readable.{Context, IsOptional}
use Rattle.cbor_read.specs.Source.{Lends}
use Rattle.cbor_decode_as.specs.Takes.{lending}
use Rattle.cbor_ser.specs.Documents.{option_document}
use Rattle.cbor_round_trip.specs.ReadBack.{IsReadBack}

-- not written as null
abbrev pub IsNotNull : Doc → Type 0
IsNotNull (encoded r) = r ≢ raw.simple null_item
IsNotNull d = d ≢ null

null_alone : (d : Doc) (p g : Bool) → raw_of d p g ≡ raw.simple null_item → IsNotNull d → ⊥
unfolding raw_of
null_alone null p g e not = not refl
null_alone (encoded r) p g e not = not e
null_alone (bool true) p g e not = absurd cc
null_alone (bool false) p g e not = absurd cc
null_alone (integer (pos n)) p g e not = absurd cc
null_alone (integer (negsuc n)) p g e not = absurd cc
null_alone (float w bits) p g e not = absurd cc
null_alone (bytes b) p g e not = absurd cc
null_alone (text b) p g e not = absurd cc
null_alone (sequence l ds) p g e not = absurd cc
null_alone (mapping l ps) p g e not = absurd cc
null_alone (structure fs) p g e not = absurd cc
null_alone (unit_variant i n) false g e not = absurd cc
null_alone (unit_variant i n) true g e not = absurd cc
null_alone (newtype_variant i n d) p false e not = absurd cc
null_alone (newtype_variant i n d) p true e not = absurd cc
null_alone (tuple_variant i n ds) p false e not = absurd cc
null_alone (tuple_variant i n ds) p true e not = absurd cc
null_alone (struct_variant i n fs) p false e not = absurd cc
null_alone (struct_variant i n fs) p true e not = absurd cc
null_alone (tagged n d) p g e not = absurd cc

-- what is there fits, and isn't written as null
abbrev pub IsAbsentOrFits : {A : Type 0} → (A → Doc) → (A → Type 0) → Option A → Type 0
IsAbsentOrFits document fits None = Unit {0}
IsAbsentOrFits document fits (Some x) = IsNotNull (document x) × fits x

module _ {A : Type 0} {document : A → Doc} {reads : Context → Raw → A → Type 0} {fits : A → Type 0} {determined : Type 0} (law : IsReadBack document reads fits determined) where
  option_itself : (o : Option A) → IsAbsentOrFits document fits o → (l : Lends) (p g : Bool)
      → IsOptional (reads (lending all_formats l)) (raw_of (option_document document o) p g) o
  unfolding raw_of
  option_itself None fit l p g = refl
  option_itself (Some x) fit l p g =
      ((λ e. null_alone (document x) p g e fit.0), law.itself x fit.1 l p g)

  option_alone : (o q : Option A) → IsAbsentOrFits document fits o → (l : Lends) (p g : Bool)
      → IsOptional (reads (lending all_formats l)) (raw_of (option_document document o) p g) q
      → option_document document q ≡ option_document document o
  unfolding raw_of
  option_alone None None fit l p g h = refl
  option_alone None (Some y) fit l p g h = absurd (h.0 refl)
  option_alone (Some x) None fit l p g h = absurd (null_alone (document x) p g h fit.0)
  option_alone (Some x) (Some y) fit l p g h = law.alone x y fit.1 l p g h.1

  option_one : determined → (c : Context) (r : Raw) (o q : Option A) → IsOptional (reads c) r o → IsOptional (reads c) r q
      → option_document document o ≡ option_document document q
  option_one d c r None None h k = refl
  option_one d c r None (Some y) h k = absurd (k.0 h)
  option_one d c r (Some x) None h k = absurd (h.0 k)
  option_one d c r (Some x) (Some y) h k = law.single d c r x y h.1 k.1

  pub option_back : IsReadBack (option_document document) (λ c. IsOptional (reads c)) (IsAbsentOrFits document fits) determined
  option_back = record { itself = option_itself; alone = option_alone; single = option_one }
