-- What stands before a document's first number that isn't stored: there is such a number exactly where
-- the document isn't storable, and it is the first of the document's parts.
use Rattle.std.proofs.Common.{◌≡◌, ◌⊎◌, inl, inr, ℕ, ℤ, pos, negsuc, ◌^◌, ◌<◌, List, [], ◌++◌, Bool, true, false, refl, arith, Some}
use Rattle.std.specs.Prelude.{nat_lt}
use Rattle.std.proofs.lemmas.Bool.{ltb-true, ltb-false}
use Rattle.cbor_model.specs.Head.{short}
use Rattle.cbor_model.specs.Spelling.{spell}
use Rattle.cbor_model.specs.Canonical.{IsStorableInteger}
use Rattle.cbor_model.specs.Document.{Doc, Docs, DocPairs, Fields, null, bool, integer, float, bytes, text, sequence, mapping, structure, unit_variant, newtype_variant, tuple_variant, struct_variant, tagged, encoded, no_docs, doc, no_doc_pairs, doc_pair, no_fields, field, doc_count, doc_pair_count, field_count, identifier, document_bytes, IsStorableDocument, AreStorableDocuments, AreStorableDocumentPairs, AreStorableFields}
use Rattle.cbor_model.specs.Parts.{Part, nothing, item, array_head, map_head, ending, tag_head, newtype_head, tuple_head, struct_head, field_part, in_turn, said, array_start, map_start, newtype_start, tuple_start, struct_start, parts, items, pairs, fields, part_bytes, IsStorablePart}
use Rattle.cbor_model.specs.Unstored.{StandsBefore, StandsBeforeAny, StandsBeforePairs, StandsBeforeFields, StandsBeforeIn}

-- ---- where all is stored there is none

mutual
  pub all_stored : (d : Doc) (p l : Bool) (front : List ℕ) → IsStorableDocument d → StandsBefore d p l front → ⊥
  all_stored (integer z) p l front s h = h.0 s
  all_stored (sequence k ds) p l front s h = each_stored ds p l h.0 s h.2
  all_stored (mapping k ps) p l front s h = pairs_stored ps p l h.0 s h.2
  all_stored (structure fs) p l front s h = fields_stored fs p l h.0 s h.2
  all_stored (newtype_variant i n d) p l front s h = all_stored d p l h.0 s h.2
  all_stored (tuple_variant i n ds) p l front s h = each_stored ds p l h.0 s h.2
  all_stored (struct_variant i n fs) p l front s h = fields_stored fs p l h.0 s h.2
  all_stored (tagged n d) p l front s h = all_stored d p l h.0 s h.2
  all_stored null p l front s h = h
  all_stored (bool b) p l front s h = h
  all_stored (float w bits) p l front s h = h
  all_stored (bytes b) p l front s h = h
  all_stored (text b) p l front s h = h
  all_stored (unit_variant i n) p l front s h = h
  all_stored (encoded r) p l front s h = h

  pub each_stored : (ds : Docs) (p l : Bool) (front : List ℕ) → AreStorableDocuments ds → StandsBeforeAny ds p l front → ⊥
  each_stored no_docs p l front s h = h
  each_stored (doc d ds) p l front s (inl x) = all_stored d p l front s.0 x
  each_stored (doc d ds) p l front s (inr y) = each_stored ds p l y.1.0 s.1 y.1.2

  pairs_stored : (ps : DocPairs) (p l : Bool) (front : List ℕ) → AreStorableDocumentPairs ps → StandsBeforePairs ps p l front → ⊥
  pairs_stored no_doc_pairs p l front s h = h
  pairs_stored (doc_pair k v ps) p l front s (inl x) = all_stored k p l front s.0 x
  pairs_stored (doc_pair k v ps) p l front s (inr y) = elim y.1.2 [
    | inl x ↦ all_stored v p l y.1.0 s.1 x
    | inr z ↦ pairs_stored ps p l z.1.0 s.2 z.1.2
  ]

  fields_stored : (fs : Fields) (p l : Bool) (front : List ℕ) → AreStorableFields fs → StandsBeforeFields fs p l front → ⊥
  fields_stored no_fields p l front s h = h
  fields_stored (field i n d fs) p l front s (inl x) = all_stored d p l x.0 s.0 x.2
  fields_stored (field i n d fs) p l front s (inr y) = fields_stored fs p l y.1.0 s.1 y.1.2

pub part_stored : (f : Part) (p l : Bool) (front : List ℕ) → IsStorablePart f → StandsBeforeIn f p l front → ⊥
part_stored nothing p l front s h = h
part_stored (item d) p l front s h = all_stored d p l front s h
part_stored (array_head n) p l front s h = h
part_stored (map_head n) p l front s h = h
part_stored (ending n) p l front s h = h
part_stored (tag_head n) p l front s h = h
part_stored (newtype_head i n) p l front s h = h
part_stored (tuple_head i n k) p l front s h = h
part_stored (struct_head i n) p l front s h = h
part_stored (field_part i n d) p l front s h = all_stored d p l h.0 s h.2
part_stored (in_turn f g) p l front s (inl x) = part_stored f p l front s.0 x
part_stored (in_turn f g) p l front s (inr y) = part_stored g p l y.1.0 s.1 y.1.2

-- ---- in a document it is in the parts

module _ (p l : Bool) where
  before_items : (ds : Docs) (end : Part) (front : List ℕ) → StandsBeforeAny ds p l front → StandsBeforeIn (items ds end) p l front
  unfolding part_bytes
  before_items no_docs end front h = absurd h
  before_items (doc d ds) end front (inl x) = inl x
  before_items (doc d ds) end front (inr y) = inr (y.0, (y.1.0, y.1.1, before_items ds end y.1.0 y.1.2))

  before_pairs : (ps : DocPairs) (end : Part) (front : List ℕ) → StandsBeforePairs ps p l front → StandsBeforeIn (pairs ps end) p l front
  unfolding part_bytes
  before_pairs no_doc_pairs end front h = absurd h
  before_pairs (doc_pair k v ps) end front (inl x) = inl x
  before_pairs (doc_pair k v ps) end front (inr y) = inr (
    y.0,
    (
      y.1.0,
      y.1.1,
      elim y.1.2 [
        | inl x ↦ inl x
        | inr z ↦ inr (z.0, (z.1.0, z.1.1, before_pairs ps end z.1.0 z.1.2))
      ],
    ),
  )

  before_fields : (fs : Fields) (front : List ℕ) → StandsBeforeFields fs p l front → StandsBeforeIn (fields fs) p l front
  unfolding part_bytes
  before_fields no_fields front h = absurd h
  before_fields (field i n d fs) front (inl x) = inl x
  before_fields (field i n d fs) front (inr y) = inr (y.0, (y.1.0, y.1.1, before_fields fs y.1.0 y.1.2))

  pub before_parts : (d : Doc) (front : List ℕ) → StandsBefore d p l front → StandsBeforeIn (parts d) p l front
  unfolding part_bytes
  before_parts (integer z) front h = h
  before_parts (sequence k ds) front h = inr (tt, (h.0, h.1, before_items ds (ending (said k 0)) h.0 h.2))
  before_parts (mapping k ps) front h = inr (tt, (h.0, h.1, before_pairs ps (ending (said k 0)) h.0 h.2))
  before_parts (structure fs) front h = inr (tt, (h.0, h.1, before_fields fs h.0 h.2))
  before_parts (newtype_variant i n d) front h = inr (tt, (h.0, h.1, h.2))
  before_parts (tuple_variant i n ds) front h = inr (tt, (h.0, h.1, before_items ds (ending (Some 0)) h.0 h.2))
  before_parts (struct_variant i n fs) front h = inr ((tt, tt), (h.0, h.1, before_fields fs h.0 h.2))
  before_parts (tagged n d) front h = inr (tt, (h.0, h.1, h.2))
  before_parts null front h = h
  before_parts (bool b) front h = h
  before_parts (float w bits) front h = h
  before_parts (bytes b) front h = h
  before_parts (text b) front h = h
  before_parts (unit_variant i n) front h = h
  before_parts (encoded r) front h = h

-- ---- where not all is stored there is one

abbrev Stops : (List ℕ → Type 0) → Type 0
Stops P = (front : List ℕ) × P front

natural : (n : ℕ) (b : Bool) → nat_lt n (2 ^ 64) ≡ b → (n < 2 ^ 64) ⊎ (n < 2 ^ 64 → ⊥)
natural n true is = inl (ltb-true n (2 ^ 64) is)
natural n false is = inr (λ lt. omega (arith, lt, ltb-false n (2 ^ 64) is))

number : (z : ℤ) → IsStorableInteger z ⊎ (IsStorableInteger z → ⊥)
number (pos n) = natural n _ refl
number (negsuc n) = natural n _ refl

advances : {S : Type 0} {P : List ℕ → Type 0} (start : List ℕ) → S ⊎ Stops P → S ⊎ Stops (λ front. (back : List ℕ) × (front ≡ start ++ back) × P back)
advances start (inl s) = inl s
advances start (inr h) = inr (start ++ h.0, (h.0, refl, h.1))

module _ (p l : Bool) where
  mutual
    pub stored_or_stops : (d : Doc) → IsStorableDocument d ⊎ Stops (StandsBefore d p l)
    stored_or_stops null = inl tt
    stored_or_stops (bool b) = inl tt
    stored_or_stops (integer z) = elim (number z) [ inl s ↦ inl s | inr not ↦ inr ([], (not, refl)) ]
    stored_or_stops (float w bits) = inl tt
    stored_or_stops (bytes b) = inl tt
    stored_or_stops (text b) = inl tt
    stored_or_stops (sequence k ds) = advances (array_start (said k (doc_count ds))) (each_or_stops ds)
    stored_or_stops (mapping k ps) = advances (map_start (said k (doc_pair_count ps))) (pairs_or_stop ps)
    stored_or_stops (structure fs) = advances (map_start (Some (field_count fs))) (fields_or_stop fs)
    stored_or_stops (unit_variant i n) = inl tt
    stored_or_stops (newtype_variant i n d) = advances (newtype_start i n p l) (stored_or_stops d)
    stored_or_stops (tuple_variant i n ds) = advances (tuple_start i n (doc_count ds) p l) (each_or_stops ds)
    stored_or_stops (struct_variant i n fs) = advances (struct_start i n p l ++ map_start (Some (field_count fs))) (fields_or_stop fs)
    stored_or_stops (tagged n d) = advances (short 6 n) (stored_or_stops d)
    stored_or_stops (encoded r) = inl tt

    each_or_stops : (ds : Docs) → AreStorableDocuments ds ⊎ Stops (StandsBeforeAny ds p l)
    each_or_stops no_docs = inl tt
    each_or_stops (doc d ds) = elim (stored_or_stops d) [
      | inl s ↦ elim (advances (document_bytes d p l) (each_or_stops ds)) [ inl t ↦ inl (s, t) | inr h ↦ inr (h.0, inr (s, h.1)) ]
      | inr h ↦ inr (h.0, inl h.1)
    ]

    pairs_or_stop : (ps : DocPairs) → AreStorableDocumentPairs ps ⊎ Stops (StandsBeforePairs ps p l)
    pairs_or_stop no_doc_pairs = inl tt
    pairs_or_stop (doc_pair k v ps) = elim (stored_or_stops k) [
      | inl s ↦ elim (stored_or_stops v) [
        | inl t ↦ elim (advances (document_bytes v p l) (pairs_or_stop ps)) [
          | inl u ↦ inl (s, t, u)
          | inr h ↦ inr (document_bytes k p l ++ h.0, inr (s, (h.0, refl, inr (t, h.1))))
        ]
        | inr h ↦ inr (document_bytes k p l ++ h.0, inr (s, (h.0, refl, inl h.1)))
      ]
      | inr h ↦ inr (h.0, inl h.1)
    ]

    fields_or_stop : (fs : Fields) → AreStorableFields fs ⊎ Stops (StandsBeforeFields fs p l)
    fields_or_stop no_fields = inl tt
    fields_or_stop (field i n d fs) = elim (advances (spell (identifier p i n)) (stored_or_stops d)) [
      | inl s ↦ elim (advances (spell (identifier p i n) ++ document_bytes d p l) (fields_or_stop fs)) [ inl t ↦ inl (s, t) | inr h ↦ inr (h.0, inr (s, h.1)) ]
      | inr h ↦ inr (h.0, inl h.1)
    ]
