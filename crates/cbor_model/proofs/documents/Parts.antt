-- The bytes of a document are those of its parts.
use Rattle.std.proofs.Common.{◌≡◌, suc, ◌∷◌, ◌++◌, refl, sym, ap, ◌∙◌, append_assoc, append-nil, Bool, true, false, Some, None}
use Rattle.cbor_model.specs.Head.{short}
use Rattle.cbor_model.specs.Raw.{count, pair_count}
use Rattle.cbor_model.specs.Spelling.{spell, spell_all, spell_pairs}
use Rattle.cbor_model.specs.Document.{Doc, Docs, DocPairs, Fields, declared, undeclared, null, bool, integer, float, bytes, text, sequence, mapping, structure, unit_variant, newtype_variant, tuple_variant, struct_variant, tagged, encoded, no_docs, doc, no_doc_pairs, doc_pair, no_fields, field, identifier, name_of, raw_of, raws_of, raw_pairs_of, raw_fields_of, document_bytes, IsStorableDocument, AreStorableDocuments, AreStorableDocumentPairs, AreStorableFields, IsDocumentInRange, AreDocumentsInRange, AreDocumentPairsInRange, AreFieldsInRange, doc_count, doc_pair_count, field_count}
use Rattle.cbor_model.specs.Parts.{Part, ending, said, parts, items, pairs, fields, part_bytes, IsStorablePart, IsPartInRange}

pub counts : (ds : Docs) (p l : Bool) → count (raws_of ds p l) ≡ doc_count ds
unfolding raw_of
counts no_docs p l = refl
counts (doc d ds) p l = ap suc (counts ds p l)

pub pair_counts : (ps : DocPairs) (p l : Bool) → pair_count (raw_pairs_of ps p l) ≡ doc_pair_count ps
unfolding raw_of
pair_counts no_doc_pairs p l = refl
pair_counts (doc_pair k v ps) p l = ap suc (pair_counts ps p l)

pub field_counts : (fs : Fields) (p l : Bool) → pair_count (raw_fields_of fs p l) ≡ field_count fs
unfolding raw_of
field_counts no_fields p l = refl
field_counts (field i n d fs) p l = ap suc (field_counts fs p l)

items_bytes : (ds : Docs) (end : Part) (p l : Bool) → part_bytes (items ds end) p l ≡ spell_all (raws_of ds p l) ++ part_bytes end p l
unfolding raw_of spell part_bytes document_bytes
items_bytes no_docs end p l = refl
items_bytes (doc d ds) end p l = ap (λ z. spell (raw_of d p l) ++ z) (items_bytes ds end p l) ∙ sym (append_assoc (spell (raw_of d p l)) (spell_all (raws_of ds p l)) (part_bytes end p l))

pairs_bytes : (ps : DocPairs) (end : Part) (p l : Bool) → part_bytes (pairs ps end) p l ≡ spell_pairs (raw_pairs_of ps p l) ++ part_bytes end p l
unfolding raw_of spell part_bytes document_bytes
pairs_bytes no_doc_pairs end p l = refl
pairs_bytes (doc_pair k v ps) end p l = rw (pairs_bytes ps end p l) (simp append_assoc)

fields_bytes : (fs : Fields) (p l : Bool) → part_bytes (fields fs) p l ≡ spell_pairs (raw_fields_of fs p l)
unfolding raw_of spell part_bytes document_bytes
fields_bytes no_fields p l = refl
fields_bytes (field i n d fs) p l = rw (fields_bytes fs p l) (append_assoc (spell (identifier p i n)) (spell (raw_of d p l)) (spell_pairs (raw_fields_of fs p l)))

closed_items : (ds : Docs) (p l : Bool) → part_bytes (items ds (ending (Some 0))) p l ≡ spell_all (raws_of ds p l)
unfolding part_bytes
closed_items ds p l = items_bytes ds (ending (Some 0)) p l ∙ append-nil (spell_all (raws_of ds p l))

closed_pairs : (ps : DocPairs) (p l : Bool) → part_bytes (pairs ps (ending (Some 0))) p l ≡ spell_pairs (raw_pairs_of ps p l)
unfolding part_bytes
closed_pairs ps p l = pairs_bytes ps (ending (Some 0)) p l ∙ append-nil (spell_pairs (raw_pairs_of ps p l))

pub parts_bytes : (d : Doc) (p l : Bool) → part_bytes (parts d) p l ≡ document_bytes d p l
unfolding raw_of spell part_bytes document_bytes
parts_bytes null p l = refl
parts_bytes (bool b) p l = refl
parts_bytes (integer z) p l = refl
parts_bytes (float w b) p l = refl
parts_bytes (bytes b) p l = refl
parts_bytes (text b) p l = refl
parts_bytes (sequence declared ds) p l = rw (closed_items ds p l, counts ds p l) refl
parts_bytes (sequence undeclared ds) p l = ap (λ z. 0x9f ∷ z) (items_bytes ds (ending None) p l)
parts_bytes (mapping declared ps) p l = rw (closed_pairs ps p l, pair_counts ps p l) refl
parts_bytes (mapping undeclared ps) p l = ap (λ z. 0xbf ∷ z) (pairs_bytes ps (ending None) p l)
parts_bytes (structure fs) p l = rw (fields_bytes fs p l, field_counts fs p l) refl
parts_bytes (unit_variant i n) p l = refl
parts_bytes (newtype_variant i n d) p true = ap (λ z. 0x82 ∷ (spell (identifier p i n) ++ z)) (sym (append-nil (spell (raw_of d p true))))
parts_bytes (newtype_variant i n d) p false = ap (λ z. 0xa1 ∷ (spell (name_of n) ++ z)) (sym (append-nil (spell (raw_of d p false))))
parts_bytes (tuple_variant i n ds) p true = rw (closed_items ds p true, counts ds p true) (append_assoc (short 4 (suc (doc_count ds))) (spell (identifier p i n)) (spell_all (raws_of ds p true)))
parts_bytes (tuple_variant i n ds) p false = rw (closed_items ds p false, counts ds p false)
    (ap (λ z. 0xa1 ∷ z) (append_assoc (spell (name_of n)) (short 4 (doc_count ds)) (spell_all (raws_of ds p false))
    ∙ ap (λ z. spell (name_of n) ++ z) (sym (append-nil (short 4 (doc_count ds) ++ spell_all (raws_of ds p false))))))
parts_bytes (struct_variant i n fs) p true = rw (fields_bytes fs p true, field_counts fs p true)
    (ap (λ z. 0x82 ∷ z) (append_assoc (spell (identifier p i n)) (short 5 (field_count fs)) (spell_pairs (raw_fields_of fs p true))
    ∙ ap (λ z. spell (identifier p i n) ++ z) (sym (append-nil (short 5 (field_count fs) ++ spell_pairs (raw_fields_of fs p true))))))
parts_bytes (struct_variant i n fs) p false = rw (fields_bytes fs p false, field_counts fs p false)
    (ap (λ z. 0xa1 ∷ z) (append_assoc (spell (identifier p i n)) (short 5 (field_count fs)) (spell_pairs (raw_fields_of fs p false))
    ∙ ap (λ z. spell (identifier p i n) ++ z) (sym (append-nil (short 5 (field_count fs) ++ spell_pairs (raw_fields_of fs p false))))))
parts_bytes (tagged n d) p l = refl
parts_bytes (encoded r) p l = refl

-- ---- a document is storable where its parts are

storable_items : (ds : Docs) (end : Part) → IsStorablePart (items ds end) → AreStorableDocuments ds
storable_items no_docs end h = tt
storable_items (doc d ds) end h = (h.0, storable_items ds end h.1)

storable_pairs : (ps : DocPairs) (end : Part) → IsStorablePart (pairs ps end) → AreStorableDocumentPairs ps
storable_pairs no_doc_pairs end h = tt
storable_pairs (doc_pair k v ps) end h = (h.0, h.1.0, storable_pairs ps end h.1.1)

storable_fields : (fs : Fields) → IsStorablePart (fields fs) → AreStorableFields fs
storable_fields no_fields h = tt
storable_fields (field i n d fs) h = (h.0, storable_fields fs h.1)

pub storable_parts : (d : Doc) → IsStorablePart (parts d) → IsStorableDocument d
storable_parts null h = tt
storable_parts (bool b) h = tt
storable_parts (integer z) h = h
storable_parts (float w b) h = tt
storable_parts (bytes b) h = tt
storable_parts (text b) h = tt
storable_parts (sequence l ds) h = storable_items ds (ending (said l 0)) h.1
storable_parts (mapping l ps) h = storable_pairs ps (ending (said l 0)) h.1
storable_parts (structure fs) h = storable_fields fs h.1
storable_parts (unit_variant i n) h = tt
storable_parts (newtype_variant i n d) h = h.1
storable_parts (tuple_variant i n ds) h = storable_items ds (ending (Some 0)) h.1
storable_parts (struct_variant i n fs) h = storable_fields fs h.1
storable_parts (tagged n d) h = h.1
storable_parts (encoded r) h = tt

items_storable : (ds : Docs) (end : Part) → IsStorablePart end → AreStorableDocuments ds → IsStorablePart (items ds end)
items_storable no_docs end e h = e
items_storable (doc d ds) end e h = (h.0, items_storable ds end e h.1)

pairs_storable : (ps : DocPairs) (end : Part) → IsStorablePart end → AreStorableDocumentPairs ps → IsStorablePart (pairs ps end)
pairs_storable no_doc_pairs end e h = e
pairs_storable (doc_pair k v ps) end e h = (h.0, (h.1, pairs_storable ps end e h.2))

fields_storable : (fs : Fields) → AreStorableFields fs → IsStorablePart (fields fs)
fields_storable no_fields h = tt
fields_storable (field i n d fs) h = (h.0, fields_storable fs h.1)

pub parts_storable : (d : Doc) → IsStorableDocument d → IsStorablePart (parts d)
parts_storable null h = tt
parts_storable (bool b) h = tt
parts_storable (integer z) h = h
parts_storable (float w b) h = tt
parts_storable (bytes b) h = tt
parts_storable (text b) h = tt
parts_storable (sequence l ds) h = (tt, items_storable ds (ending (said l 0)) tt h)
parts_storable (mapping l ps) h = (tt, pairs_storable ps (ending (said l 0)) tt h)
parts_storable (structure fs) h = (tt, fields_storable fs h)
parts_storable (unit_variant i n) h = tt
parts_storable (newtype_variant i n d) h = (tt, h)
parts_storable (tuple_variant i n ds) h = (tt, items_storable ds (ending (Some 0)) tt h)
parts_storable (struct_variant i n fs) h = ((tt, tt), fields_storable fs h)
parts_storable (tagged n d) h = (tt, h)
parts_storable (encoded r) h = tt

-- ---- a document is in range where its parts are

items_in_range : (ds : Docs) (end : Part) → IsPartInRange (items ds end) → AreDocumentsInRange ds
items_in_range no_docs end h = tt
items_in_range (doc d ds) end h = (h.0, items_in_range ds end h.1)

pairs_in_range : (ps : DocPairs) (end : Part) → IsPartInRange (pairs ps end) → AreDocumentPairsInRange ps
pairs_in_range no_doc_pairs end h = tt
pairs_in_range (doc_pair k v ps) end h = (h.0, h.1.0, pairs_in_range ps end h.1.1)

fields_in_range : (fs : Fields) → IsPartInRange (fields fs) → AreFieldsInRange fs
fields_in_range no_fields h = tt
fields_in_range (field i n d fs) h = (h.0.0, h.0.1, h.0.2, fields_in_range fs h.1)

pub parts_in_range : (d : Doc) → IsPartInRange (parts d) → IsDocumentInRange d
parts_in_range null h = tt
parts_in_range (bool b) h = tt
parts_in_range (integer z) h = tt
parts_in_range (float w b) h = h
parts_in_range (bytes b) h = h
parts_in_range (text b) h = h
parts_in_range (sequence declared ds) h = (h.0, items_in_range ds (ending (Some 0)) h.1)
parts_in_range (sequence undeclared ds) h = (tt, items_in_range ds (ending None) h.1)
parts_in_range (mapping declared ps) h = (h.0, pairs_in_range ps (ending (Some 0)) h.1)
parts_in_range (mapping undeclared ps) h = (tt, pairs_in_range ps (ending None) h.1)
parts_in_range (structure fs) h = (h.0, fields_in_range fs h.1)
parts_in_range (unit_variant i n) h = h
parts_in_range (newtype_variant i n d) h = (h.0.0, h.0.1, h.1)
parts_in_range (tuple_variant i n ds) h = (h.0.0, h.0.1, h.0.2, items_in_range ds (ending (Some 0)) h.1)
parts_in_range (struct_variant i n fs) h = (h.0.0.0, h.0.0.1, h.0.1, fields_in_range fs h.1)
parts_in_range (tagged n d) h = h
parts_in_range (encoded r) h = h
