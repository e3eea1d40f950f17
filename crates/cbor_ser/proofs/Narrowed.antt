-- Documents with each float at its narrowest, and their parts.
use Rattle.std.proofs.Common.{◌≡◌, ◌∙◌, ℕ, suc, Bool, true, false, Some, None, Option, refl, ap}
use Rattle.std.proofs.lemmas.Bool.{cond_both}
use Rattle.std.specs.Float.{binary32, binary64}
use Rattle.std.specs.Float.Ieee as ieee
use Rattle.std.specs.Float.Ieee.{fits, to_bits}
use Rattle.cbor_model.specs.Raw.{FloatWidth, half, single, double}
use Rattle.cbor_model.specs.Plain.{Val}
use Rattle.cbor_model.specs.Document.{Doc, Docs, DocPairs, Fields, null, bool, integer, float, bytes, text, unit_variant, sequence, mapping, structure, newtype_variant, tuple_variant, struct_variant, tagged, encoded, no_docs, doc, no_doc_pairs, doc_pair, no_fields, field, document_of, doc_count, doc_pair_count, field_count, IsStorableDocument, AreStorableDocuments, AreStorableDocumentPairs, AreStorableFields}
use Rattle.cbor_model.specs.Parts.{Part, nothing, item, array_head, map_head, ending, tag_head, newtype_head, tuple_head, struct_head, field_part, in_turn, items, pairs, fields, said, parts, IsStorablePart}
use Rattle.cbor_value.specs.Floats.{number, number_of}
use Rattle.cbor_value.specs.Shortest.{half_of, half_or_single, shortest}
use Rattle.cbor_value.specs.View.{float_view}
use Rattle.cbor_value.specs.declared.Float.{Float}
use Rattle.cbor_value.specs.declared.Float.TheVariants.{Half, Single, Double}
use Rattle.cbor_ser.specs.Narrowed.{narrowed_float, narrowed, all_narrowed, pairs_narrowed, fields_narrowed, narrowed_part}

-- ---- without the setting a document stays

mutual
  pub wide : (d : Doc) → narrowed false d ≡ d
  wide (float w bits) = refl
  wide (sequence l ds) = ap (sequence l) (all_wide ds)
  wide (mapping l ps) = ap (mapping l) (pairs_wide ps)
  wide (structure fs) = ap structure (fields_wide fs)
  wide (newtype_variant i n d) = ap (newtype_variant i n) (wide d)
  wide (tuple_variant i n ds) = ap (tuple_variant i n) (all_wide ds)
  wide (struct_variant i n fs) = ap (struct_variant i n) (fields_wide fs)
  wide (tagged n d) = ap (tagged n) (wide d)
  wide null = refl
  wide (bool b) = refl
  wide (integer z) = refl
  wide (bytes b) = refl
  wide (text b) = refl
  wide (unit_variant i n) = refl
  wide (encoded r) = refl

  all_wide : (ds : Docs) → all_narrowed false ds ≡ ds
  all_wide no_docs = refl
  all_wide (doc d ds) = rw (wide d, all_wide ds) refl

  pairs_wide : (ps : DocPairs) → pairs_narrowed false ps ≡ ps
  pairs_wide no_doc_pairs = refl
  pairs_wide (doc_pair k v ps) = rw (wide k, wide v, pairs_wide ps) refl

  fields_wide : (fs : Fields) → fields_narrowed false fs ≡ fs
  fields_wide no_fields = refl
  fields_wide (field i n d fs) = rw (wide d, fields_wide fs) refl

pub wide_under : (b : Bool) (d : Doc) → b ≡ false → narrowed b d ≡ d
wide_under b d is = ap (λ b. narrowed b d) is ∙ wide d

-- ---- a float is one item, which is stored

half_or_single_any : (P : Doc → Type 0) → ((w : FloatWidth) (bits : ℕ) → P (float w bits)) → (bits : ℕ) (h : Option ℕ) → P (document_of (half_or_single bits h))
unfolding document_of
half_or_single_any P each bits (Some h) = each half h
half_or_single_any P each bits None = each single bits

shortest_any : (P : Doc → Type 0) → ((w : FloatWidth) (bits : ℕ) → P (float w bits)) → (x : ieee.Float) → P (document_of (shortest x))
unfolding document_of shortest
shortest_any P each x =
    cond_both (fits binary32 x) _ _ (λ (v : Val). P (document_of v))
    (λ fit. half_or_single_any P each (to_bits binary32 x) (half_of (to_bits binary32 x)))
    (λ not. each double (to_bits binary64 x))

float_any : (P : Doc → Type 0) → ((w : FloatWidth) (bits : ℕ) → P (float w bits)) → (b : Bool) (w : FloatWidth) (bits : ℕ) → P (narrowed_float b w bits)
float_any P each false w bits = each w bits
float_any P each true w bits = shortest_any P each (number w bits)

-- the setting's float
pub float_narrowed : (f : Float) → narrowed true (document_of (float_view f)) ≡ document_of (shortest (number_of f))
unfolding document_of
float_narrowed (Half bits) = refl
float_narrowed (Single bits) = refl
float_narrowed (Double bits) = refl

-- ---- what is stored stays so

mutual
  pub storable_narrowed : (b : Bool) (d : Doc) → IsStorableDocument d → IsStorableDocument (narrowed b d)
  storable_narrowed b (float w bits) h = float_any IsStorableDocument (λ v x. tt) b w bits
  storable_narrowed b (sequence l ds) h = all_storable b ds h
  storable_narrowed b (mapping l ps) h = pairs_storable b ps h
  storable_narrowed b (structure fs) h = fields_storable b fs h
  storable_narrowed b (newtype_variant i n d) h = storable_narrowed b d h
  storable_narrowed b (tuple_variant i n ds) h = all_storable b ds h
  storable_narrowed b (struct_variant i n fs) h = fields_storable b fs h
  storable_narrowed b (tagged n d) h = storable_narrowed b d h
  storable_narrowed b null h = tt
  storable_narrowed b (bool x) h = tt
  storable_narrowed b (integer z) h = h
  storable_narrowed b (bytes x) h = tt
  storable_narrowed b (text x) h = tt
  storable_narrowed b (unit_variant i n) h = tt
  storable_narrowed b (encoded r) h = tt

  all_storable : (b : Bool) (ds : Docs) → AreStorableDocuments ds → AreStorableDocuments (all_narrowed b ds)
  all_storable b no_docs h = tt
  all_storable b (doc d ds) h = (storable_narrowed b d h.0, all_storable b ds h.1)

  pairs_storable : (b : Bool) (ps : DocPairs) → AreStorableDocumentPairs ps → AreStorableDocumentPairs (pairs_narrowed b ps)
  pairs_storable b no_doc_pairs h = tt
  pairs_storable b (doc_pair k v ps) h = (storable_narrowed b k h.0, storable_narrowed b v h.1, pairs_storable b ps h.2)

  fields_storable : (b : Bool) (fs : Fields) → AreStorableFields fs → AreStorableFields (fields_narrowed b fs)
  fields_storable b no_fields h = tt
  fields_storable b (field i n d fs) h = (storable_narrowed b d h.0, fields_storable b fs h.1)

pub part_storable : (b : Bool) (p : Part) → IsStorablePart p → IsStorablePart (narrowed_part b p)
part_storable b (item d) h = storable_narrowed b d h
part_storable b (field_part i n d) h = storable_narrowed b d h
part_storable b (in_turn p q) h = (part_storable b p h.0, part_storable b q h.1)
part_storable b nothing h = h
part_storable b (array_head n) h = h
part_storable b (map_head n) h = h
part_storable b (ending n) h = h
part_storable b (tag_head n) h = h
part_storable b (newtype_head i n) h = h
part_storable b (tuple_head i n len) h = h
part_storable b (struct_head i n) h = h

-- ---- a document's parts, so narrowed, are those of the narrowed document

docs_counted : (b : Bool) (ds : Docs) → doc_count ds ≡ doc_count (all_narrowed b ds)
docs_counted b no_docs = refl
docs_counted b (doc d ds) = ap suc (docs_counted b ds)

pairs_counted : (b : Bool) (ps : DocPairs) → doc_pair_count ps ≡ doc_pair_count (pairs_narrowed b ps)
pairs_counted b no_doc_pairs = refl
pairs_counted b (doc_pair k v ps) = ap suc (pairs_counted b ps)

fields_counted : (b : Bool) (fs : Fields) → field_count fs ≡ field_count (fields_narrowed b fs)
fields_counted b no_fields = refl
fields_counted b (field i n d fs) = ap suc (fields_counted b fs)

items_narrowed : (b : Bool) (ds : Docs) (n : Option ℕ) → narrowed_part b (items ds (ending n)) ≡ items (all_narrowed b ds) (ending n)
items_narrowed b no_docs n = refl
items_narrowed b (doc d ds) n = ap (in_turn (item (narrowed b d))) (items_narrowed b ds n)

pair_parts_narrowed : (b : Bool) (ps : DocPairs) (n : Option ℕ) → narrowed_part b (pairs ps (ending n)) ≡ pairs (pairs_narrowed b ps) (ending n)
pair_parts_narrowed b no_doc_pairs n = refl
pair_parts_narrowed b (doc_pair k v ps) n = ap (λ p. in_turn (item (narrowed b k)) (in_turn (item (narrowed b v)) p)) (pair_parts_narrowed b ps n)

field_parts_narrowed : (b : Bool) (fs : Fields) → narrowed_part b (fields fs) ≡ fields (fields_narrowed b fs)
field_parts_narrowed b no_fields = refl
field_parts_narrowed b (field i n d fs) = ap (in_turn (field_part i n (narrowed b d))) (field_parts_narrowed b fs)

pub parts_narrowed : (b : Bool) (d : Doc) → narrowed_part b (parts d) ≡ parts (narrowed b d)
parts_narrowed b (float w bits) = float_any (λ d. item d ≡ parts d) (λ v x. refl) b w bits
parts_narrowed b (sequence l ds) = rw (docs_counted b ds, items_narrowed b ds (said l 0)) refl
parts_narrowed b (mapping l ps) = rw (pairs_counted b ps, pair_parts_narrowed b ps (said l 0)) refl
parts_narrowed b (structure fs) = rw (fields_counted b fs, field_parts_narrowed b fs) refl
parts_narrowed b (newtype_variant i n d) = refl
parts_narrowed b (tuple_variant i n ds) = rw (docs_counted b ds, items_narrowed b ds (Some 0)) refl
parts_narrowed b (struct_variant i n fs) = rw (fields_counted b fs, field_parts_narrowed b fs) refl
parts_narrowed b (tagged n d) = refl
parts_narrowed b null = refl
parts_narrowed b (bool x) = refl
parts_narrowed b (integer z) = refl
parts_narrowed b (bytes x) = refl
parts_narrowed b (text x) = refl
parts_narrowed b (unit_variant i n) = refl
parts_narrowed b (encoded r) = refl
