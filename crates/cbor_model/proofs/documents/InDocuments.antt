-- The item of a document that is storable and in range is acceptable, and has no more levels than
-- bytes.
use Rattle.std.proofs.Common.{◌≡◌, ◌^◌, ◌<◌, ◌≤◌, ◌++◌, ℕ, ℤ, pos, negsuc, suc, refl, ap, Bool, true, false, List, length, IsUtf8, arith, lit<}
use Rattle.std.proofs.lemmas.List.{length-append}
use Rattle.cbor_model.specs.Head.{head}
use Rattle.cbor_model.specs.Raw as raw
use Rattle.cbor_model.specs.Raw.{Raw, Raws, RawPairs, raw_pair, count, pair_count, IsWellFormed, AreWellFormed, ArePairsWellFormed, FitsLength, EachText, EachTextOfAll, EachTextOfPairs, depth, depth_all, depth_pairs}
use Rattle.cbor_model.specs.Spelling.{spell, spell_all, spell_pairs, break, enclosed}
use Rattle.cbor_model.specs.Acceptable.{IsAcceptableWithin, max_depth}
use Rattle.cbor_model.specs.Value.{value}
use Rattle.cbor_model.specs.Laws.{SpellsValue}
use Rattle.cbor_model.specs.Canonical.{canonical_integer}
use Rattle.cbor_model.specs.InMemory.{IsTextString}
use Rattle.cbor_model.specs.Document.{Doc, Docs, DocPairs, Fields, Length, declared, undeclared, null, bool, integer, float, bytes, text, sequence, mapping, structure, unit_variant, newtype_variant, tuple_variant, struct_variant, tagged, encoded, no_docs, doc, no_doc_pairs, doc_pair, no_fields, field, identifier, raw_of, raws_of, raw_pairs_of, raw_fields_of, document_bytes, IsStorableDocument, AreStorableDocuments, AreStorableDocumentPairs, AreStorableFields, IsDocumentInRange, AreDocumentsInRange, AreDocumentPairsInRange, AreFieldsInRange, FitsCount, length_of}
use Rattle.cbor_model.proofs.values.Canonical.{lt-limit-least}
use Rattle.cbor_model.proofs.values.InMemory.{integer_fits, counted}
use Rattle.cbor_model.proofs.documents.Parts.{counts, pair_counts, field_counts}

-- ---- identifiers

identifier_fits : (packed : Bool) (i : ℕ) (n : List ℕ) → i < 2 ^ 64 → IsTextString n → IsWellFormed (identifier packed i n)
identifier_fits false i n below name = (lt-limit-least _ name.0.0, name.0.1)
identifier_fits true i n below name = lt-limit-least i below

identifier_texts : (packed : Bool) (i : ℕ) (n : List ℕ) → IsTextString n → EachText IsUtf8 (identifier packed i n)
identifier_texts false i n name = name.1
identifier_texts true i n name = tt

-- ---- well formed

fits_length : (l : Length) (m n : ℕ) → m ≡ n → FitsCount l n → FitsLength m (length_of l m)
fits_length declared m n same below = counted m n same below
fits_length undeclared m n same below = tt

mutual
  unfolding raw_of

  fits : (d : Doc) (p l : Bool) → IsStorableDocument d → IsDocumentInRange d → IsWellFormed (raw_of d p l)
  fits null p l s h = tt
  fits (bool b) p l s h = tt
  fits (integer z) p l s h = integer_fits z s
  fits (float w bits) p l s h = h
  fits (bytes b) p l s h = (lt-limit-least _ h.0, h.1)
  fits (text b) p l s h = (lt-limit-least _ h.0.0, h.0.1)
  fits (sequence k ds) p l s h = (fits_length k _ _ (counts ds p l) h.0, all_fit ds p l s h.1)
  fits (mapping k ps) p l s h = (fits_length k _ _ (pair_counts ps p l) h.0, pairs_fit ps p l s h.1)
  fits (structure fs) p l s h = (counted _ _ (field_counts fs p l) h.0, fields_fit fs p l s h.1)
  fits (unit_variant i n) p l s h = identifier_fits p i n h.0 h.1
  fits (newtype_variant i n d) p false s h =
      (lit< tt, (identifier_fits false i n h.0 h.1, fits d p false s h.2, tt))
  fits (newtype_variant i n d) p true s h =
      (lit< tt, (identifier_fits p i n h.0 h.1, (fits d p true s h.2, tt)))
  fits (tuple_variant i n ds) p false s h =
      (lit< tt, (identifier_fits false i n h.0 h.1, (counted _ _ (counts ds p false) (omega (arith, h.2)), all_fit ds p false s h.3), tt))
  fits (tuple_variant i n ds) p true s h =
      (counted _ _ (ap suc (counts ds p true)) h.2, (identifier_fits p i n h.0 h.1, all_fit ds p true s h.3))
  fits (struct_variant i n fs) p false s h =
      (lit< tt, (identifier_fits p i n h.0 h.1, (counted _ _ (field_counts fs p false) h.2, fields_fit fs p false s h.3), tt))
  fits (struct_variant i n fs) p true s h =
      (lit< tt, (identifier_fits p i n h.0 h.1, ((counted _ _ (field_counts fs p true) h.2, fields_fit fs p true s h.3), tt)))
  fits (tagged n d) p l s h = (lt-limit-least n h.0, fits d p l s h.1)
  fits (encoded r) p l s h = h.0

  all_fit : (ds : Docs) (p l : Bool) → AreStorableDocuments ds → AreDocumentsInRange ds → AreWellFormed (raws_of ds p l)
  all_fit no_docs p l s h = tt
  all_fit (doc d ds) p l s h = (fits d p l s.0 h.0, all_fit ds p l s.1 h.1)

  pairs_fit : (ps : DocPairs) (p l : Bool) → AreStorableDocumentPairs ps → AreDocumentPairsInRange ps → ArePairsWellFormed (raw_pairs_of ps p l)
  pairs_fit no_doc_pairs p l s h = tt
  pairs_fit (doc_pair k v ps) p l s h = (fits k p l s.0 h.0, fits v p l s.1 h.1, pairs_fit ps p l s.2 h.2)

  fields_fit : (fs : Fields) (p l : Bool) → AreStorableFields fs → AreFieldsInRange fs → ArePairsWellFormed (raw_fields_of fs p l)
  fields_fit no_fields p l s h = tt
  fields_fit (field i n d fs) p l s h = (identifier_fits p i n h.0 h.1, fits d p l s.0 h.2, fields_fit fs p l s.1 h.3)

-- ---- texts

integer_texts : (z : ℤ) → EachText IsUtf8 (canonical_integer z)
integer_texts (pos n) = tt
integer_texts (negsuc n) = tt

mutual
  unfolding raw_of

  texts : (d : Doc) (p l : Bool) → IsDocumentInRange d → EachText IsUtf8 (raw_of d p l)
  texts null p l h = tt
  texts (bool b) p l h = tt
  texts (integer z) p l h = integer_texts z
  texts (float w bits) p l h = tt
  texts (bytes b) p l h = tt
  texts (text b) p l h = h.1
  texts (sequence k ds) p l h = all_texts ds p l h.1
  texts (mapping k ps) p l h = pairs_texts ps p l h.1
  texts (structure fs) p l h = fields_texts fs p l h.1
  texts (unit_variant i n) p l h = identifier_texts p i n h.1
  texts (newtype_variant i n d) p false h = (h.1.1, texts d p false h.2, tt)
  texts (newtype_variant i n d) p true h = (identifier_texts p i n h.1, (texts d p true h.2, tt))
  texts (tuple_variant i n ds) p false h = (h.1.1, all_texts ds p false h.3, tt)
  texts (tuple_variant i n ds) p true h = (identifier_texts p i n h.1, all_texts ds p true h.3)
  texts (struct_variant i n fs) p false h = (identifier_texts p i n h.1, fields_texts fs p false h.3, tt)
  texts (struct_variant i n fs) p true h = (identifier_texts p i n h.1, (fields_texts fs p true h.3, tt))
  texts (tagged n d) p l h = texts d p l h.1
  texts (encoded r) p l h = h.1

  all_texts : (ds : Docs) (p l : Bool) → AreDocumentsInRange ds → EachTextOfAll IsUtf8 (raws_of ds p l)
  all_texts no_docs p l h = tt
  all_texts (doc d ds) p l h = (texts d p l h.0, all_texts ds p l h.1)

  pairs_texts : (ps : DocPairs) (p l : Bool) → AreDocumentPairsInRange ps → EachTextOfPairs IsUtf8 (raw_pairs_of ps p l)
  pairs_texts no_doc_pairs p l h = tt
  pairs_texts (doc_pair k v ps) p l h = (texts k p l h.0, texts v p l h.1, pairs_texts ps p l h.2)

  fields_texts : (fs : Fields) (p l : Bool) → AreFieldsInRange fs → EachTextOfPairs IsUtf8 (raw_fields_of fs p l)
  fields_texts no_fields p l h = tt
  fields_texts (field i n d fs) p l h = (identifier_texts p i n h.1, texts d p l h.2, fields_texts fs p l h.3)

pub document_is_acceptable : (levels : ℕ) (d : Doc) (packed legacy : Bool) → IsStorableDocument d → IsDocumentInRange d → depth (raw_of d packed legacy) ≤ levels
    → IsAcceptableWithin levels (raw_of d packed legacy)
document_is_acceptable levels d packed legacy s h nests = record {
  fits = fits d packed legacy s h;
  nests = nests;
  texts = texts d packed legacy h;
}

pub document_reads_back : (d : Doc) (packed legacy : Bool) → IsStorableDocument d → IsDocumentInRange d → depth (raw_of d packed legacy) ≤ max_depth
    → SpellsValue (document_bytes d packed legacy) (value (raw_of d packed legacy))
unfolding document_bytes
document_reads_back d packed legacy s h nests = record {
  item = raw_of d packed legacy;
  acceptable = document_is_acceptable max_depth d packed legacy s h nests;
  spelled = refl;
  valued = refl;
}

-- ---- levels

enclosed_length : (major : ℕ) (l : raw.Length) (n : ℕ) (items : List ℕ) → length items < length (enclosed major l n items)
enclosed_length major (raw.definite w) n items = omega (arith, length-append (head major w n) items)
enclosed_length major raw.indefinite n items = omega (arith, length-append items break)

mutual
  unfolding spell

  -- an item is nested no deeper than it has bytes
  pub depth-le : (r : Raw) → depth r ≤ length (spell r)
  depth-le (raw.array l rs) = omega (arith, all_depth-le rs, enclosed_length 4 l (count rs) (spell_all rs))
  depth-le (raw.map l ps) = omega (arith, pairs_depth-le ps, enclosed_length 5 l (pair_count ps) (spell_pairs ps))
  depth-le (raw.tag w n r) = omega (arith, depth-le r, length-append (head 6 w n) (spell r))
  depth-le (raw.unsigned w n) = omega arith
  depth-le (raw.negative w n) = omega arith
  depth-le (raw.bytes c) = omega arith
  depth-le (raw.text c) = omega arith
  depth-le (raw.bytes_chunks cs) = omega arith
  depth-le (raw.text_chunks cs) = omega arith
  depth-le (raw.simple s) = omega arith
  depth-le (raw.float w bits) = omega arith

  all_depth-le : (rs : Raws) → depth_all rs ≤ length (spell_all rs)
  all_depth-le raw.no_raws = omega arith
  all_depth-le (raw.raw r rs) = omega (arith, depth-le r, all_depth-le rs, length-append (spell r) (spell_all rs))

  pairs_depth-le : (ps : RawPairs) → depth_pairs ps ≤ length (spell_pairs ps)
  pairs_depth-le raw.no_raw_pairs = omega arith
  pairs_depth-le (raw_pair k v ps) =
      omega (arith, depth-le k, depth-le v, pairs_depth-le ps, length-append (spell k) (spell v ++ spell_pairs ps), length-append (spell v) (spell_pairs ps))
