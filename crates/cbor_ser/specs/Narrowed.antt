-- Documents with each float in the narrowest width that holds its number, where a serializer is set
-- to that (RFC 8949, section 4.2.1).
use Rattle.std.specs.Prelude.{◌≡◌, ℕ, Bool, true, false, refl}
use Rattle.std.specs.Float.Ieee.{fits, odd, of_bits, of_fields, to_bits}
use Rattle.cbor_model.specs.Raw.{FloatWidth, half, single, double}
use Rattle.cbor_model.specs.Document.{Doc, Docs, DocPairs, Fields, float, sequence, mapping}
use Rattle.cbor_model.specs.Document.{structure, newtype_variant, tuple_variant, struct_variant}
use Rattle.cbor_model.specs.Document.{tagged, no_docs, doc, no_doc_pairs, doc_pair, no_fields, field}
use Rattle.cbor_model.specs.Document.{declared, document_of}
use Rattle.cbor_model.specs.Parts.{Part, item, field_part, in_turn}
use Rattle.cbor_value.specs.Floats.{number}
use Rattle.cbor_value.specs.Shortest.{shortest}

-- a float as it is, or the shortest of its number
abbrev pub narrowed_float : Bool → FloatWidth → ℕ → Doc
narrowed_float false w bits = float w bits
narrowed_float true w bits = document_of (shortest (number w bits))

-- The document with each of its floats so. All else of it stays: what was encoded elsewhere, and the
-- order of a map's pairs too.
abbrev mutual
  pub narrowed : Bool → Doc → Doc
  narrowed b (float w bits) = narrowed_float b w bits
  narrowed b (sequence l ds) = sequence l (all_narrowed b ds)
  narrowed b (mapping l ps) = mapping l (pairs_narrowed b ps)
  narrowed b (structure fs) = structure (fields_narrowed b fs)
  narrowed b (newtype_variant i n d) = newtype_variant i n (narrowed b d)
  narrowed b (tuple_variant i n ds) = tuple_variant i n (all_narrowed b ds)
  narrowed b (struct_variant i n fs) = struct_variant i n (fields_narrowed b fs)
  narrowed b (tagged n d) = tagged n (narrowed b d)
  narrowed b d = d

  pub all_narrowed : Bool → Docs → Docs
  all_narrowed b no_docs = no_docs
  all_narrowed b (doc d ds) = doc (narrowed b d) (all_narrowed b ds)

  pub pairs_narrowed : Bool → DocPairs → DocPairs
  pairs_narrowed b no_doc_pairs = no_doc_pairs
  pairs_narrowed b (doc_pair k v ps) =
      doc_pair (narrowed b k) (narrowed b v) (pairs_narrowed b ps)

  pub fields_narrowed : Bool → Fields → Fields
  fields_narrowed b no_fields = no_fields
  fields_narrowed b (field i n d fs) = field i n (narrowed b d) (fields_narrowed b fs)

-- a part with its floats so
abbrev pub narrowed_part : Bool → Part → Part
narrowed_part b (item d) = item (narrowed b d)
narrowed_part b (field_part i n d) = field_part i n (narrowed b d)
narrowed_part b (in_turn p q) = in_turn (narrowed_part b p) (narrowed_part b q)
narrowed_part b p = p

-- ---- examples

-- {1.5: [1.1]} with floats of 64 bits is {1.5 of 16 bits: [1.1]}
in_key : narrowed true (mapping declared (doc_pair (float double 0x3ff8_0000_0000_0000)
    (sequence declared (doc (float double 0x3ff1_9999_9999_999a) no_docs)) no_doc_pairs))
    ≡ mapping declared (doc_pair (float half 0x3e00)
    (sequence declared (doc (float double 0x3ff1_9999_9999_999a) no_docs)) no_doc_pairs)
unfolding document_of shortest of_bits of_fields odd fits to_bits
in_key = refl

-- without it, it stays
kept : narrowed false (tagged 1 (float single 0x3fc0_0000)) ≡ tagged 1 (float single 0x3fc0_0000)
kept = refl
