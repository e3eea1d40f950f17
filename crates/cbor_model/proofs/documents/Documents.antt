-- The document of a value is spelled as the value is.
use Rattle.std.proofs.Common.{◌≡◌, ◌^◌, ◌<◌, suc, Bool, refl, ap, sym, ◌∙◌, subst}
use Rattle.cbor_model.specs.Head.{least}
use Rattle.cbor_model.specs.Raw as raw
use Rattle.cbor_model.specs.Raw.{Raw, Raws, RawPairs, raw_pair}
use Rattle.cbor_model.specs.Spelling.{spell}
use Rattle.cbor_model.specs.Plain.{Val, null, bool, integer, float, bytes, text, array, map, tag, Vals, no_vals, val, Pairs, no_pairs, pair, count, pair_count}
use Rattle.cbor_model.specs.Canonical.{canonical, canonical_all, canonical_pairs, canon, IsStorable, AreStorable, ArePairsStorable}
use Rattle.cbor_model.specs.InRange.{IsInRange}
use Rattle.cbor_model.specs.InMemory.{IsInMemory, AreInMemory, ArePairsInMemory}
use Rattle.cbor_model.proofs.values.InMemory as memory
use Rattle.cbor_model.specs.Document.{document_of, documents_of, document_pairs_of, raw_of, raws_of, raw_pairs_of, document_bytes, DocumentIsCanonical, IsStorableDocument, AreStorableDocuments, AreStorableDocumentPairs, IsDocumentInRange, AreDocumentsInRange, AreDocumentPairsInRange, doc_count, doc_pair_count}

mutual
  unfolding raw_of document_of canonical

  pub document_item : (v : Val) (p l : Bool) → raw_of (document_of v) p l ≡ canonical v
  document_item null p l = refl
  document_item (bool b) p l = refl
  document_item (integer z) p l = refl
  document_item (float w bits) p l = refl
  document_item (bytes b) p l = refl
  document_item (text b) p l = refl
  document_item (array vs) p l = ap (λ (rs : Raws). raw.array (raw.definite (least (raw.count rs))) rs) (document_items vs p l)
  document_item (map ps) p l = ap (λ (rs : RawPairs). raw.map (raw.definite (least (raw.pair_count rs))) rs) (document_item_pairs ps p l)
  document_item (tag n v) p l = ap (λ (r : Raw). raw.tag (least n) n r) (document_item v p l)

  document_items : (vs : Vals) (p l : Bool) → raws_of (documents_of vs) p l ≡ canonical_all vs
  document_items no_vals p l = refl
  document_items (val v vs) p l = ap (λ (r : Raw). raw.raw r (raws_of (documents_of vs) p l)) (document_item v p l) ∙ ap (λ (rs : Raws). raw.raw (canonical v) rs) (document_items vs p l)

  document_item_pairs : (ps : Pairs) (p l : Bool) → raw_pairs_of (document_pairs_of ps) p l ≡ canonical_pairs ps
  document_item_pairs no_pairs p l = refl
  document_item_pairs (pair k v ps) p l =
      ap (λ (r : Raw). raw_pair r (raw_of (document_of v) p l) (raw_pairs_of (document_pairs_of ps) p l)) (document_item k p l)
      ∙ ap (λ (r : Raw). raw_pair (canonical k) r (raw_pairs_of (document_pairs_of ps) p l)) (document_item v p l)
      ∙ ap (λ (rs : RawPairs). raw_pair (canonical k) (canonical v) rs) (document_item_pairs ps p l)

pub document_is_canonical : (v : Val) → DocumentIsCanonical v
unfolding document_bytes canon
document_is_canonical v p l = ap spell (document_item v p l)

-- ---- a value is storable where its document is

mutual
  unfolding document_of

  pub storable_document : (v : Val) → IsStorable v → IsStorableDocument (document_of v)
  storable_document null h = tt
  storable_document (bool b) h = tt
  storable_document (integer z) h = h
  storable_document (float w bits) h = tt
  storable_document (bytes b) h = tt
  storable_document (text b) h = tt
  storable_document (array vs) h = storable_documents vs h
  storable_document (map ps) h = storable_document_pairs ps h
  storable_document (tag n v) h = storable_document v h

  storable_documents : (vs : Vals) → AreStorable vs → AreStorableDocuments (documents_of vs)
  storable_documents no_vals h = tt
  storable_documents (val v vs) h = (storable_document v h.0, storable_documents vs h.1)

  storable_document_pairs : (ps : Pairs) → ArePairsStorable ps → AreStorableDocumentPairs (document_pairs_of ps)
  storable_document_pairs no_pairs h = tt
  storable_document_pairs (pair k v ps) h = (storable_document k h.0, storable_document v h.1, storable_document_pairs ps h.2)

mutual
  unfolding document_of

  pub storable_value : (v : Val) → IsStorableDocument (document_of v) → IsStorable v
  storable_value null h = tt
  storable_value (bool b) h = tt
  storable_value (integer z) h = h
  storable_value (float w bits) h = tt
  storable_value (bytes b) h = tt
  storable_value (text b) h = tt
  storable_value (array vs) h = storable_values vs h
  storable_value (map ps) h = storable_value_pairs ps h
  storable_value (tag n v) h = storable_value v h

  storable_values : (vs : Vals) → AreStorableDocuments (documents_of vs) → AreStorable vs
  storable_values no_vals h = tt
  storable_values (val v vs) h = (storable_value v h.0, storable_values vs h.1)

  storable_value_pairs : (ps : Pairs) → AreStorableDocumentPairs (document_pairs_of ps) → ArePairsStorable ps
  storable_value_pairs no_pairs h = tt
  storable_value_pairs (pair k v ps) h = (storable_value k h.0, storable_value v h.1, storable_value_pairs ps h.2)

-- ---- a value is one in memory where its document is in range

pub documents_counted : (vs : Vals) → doc_count (documents_of vs) ≡ count vs
unfolding document_of
documents_counted no_vals = refl
documents_counted (val v vs) = ap suc (documents_counted vs)

pub pairs_counted : (ps : Pairs) → doc_pair_count (document_pairs_of ps) ≡ pair_count ps
unfolding document_of
pairs_counted no_pairs = refl
pairs_counted (pair k v ps) = ap suc (pairs_counted ps)

mutual
  unfolding document_of

  pub value_in_memory : (v : Val) → IsDocumentInRange (document_of v) → IsInMemory v
  value_in_memory null h = tt
  value_in_memory (bool b) h = tt
  value_in_memory (integer z) h = tt
  value_in_memory (float w bits) h = h
  value_in_memory (bytes b) h = h
  value_in_memory (text b) h = h
  value_in_memory (array vs) h = (subst (λ n. n < 2 ^ 64) (documents_counted vs) h.0, values_in_memory vs h.1)
  value_in_memory (map ps) h = (subst (λ n. n < 2 ^ 64) (pairs_counted ps) h.0, value_pairs_in_memory ps h.1)
  value_in_memory (tag n v) h = (h.0, value_in_memory v h.1)

  values_in_memory : (vs : Vals) → AreDocumentsInRange (documents_of vs) → AreInMemory vs
  values_in_memory no_vals h = tt
  values_in_memory (val v vs) h = (value_in_memory v h.0, values_in_memory vs h.1)

  value_pairs_in_memory : (ps : Pairs) → AreDocumentPairsInRange (document_pairs_of ps) → ArePairsInMemory ps
  value_pairs_in_memory no_pairs h = tt
  value_pairs_in_memory (pair k v ps) h = (value_in_memory k h.0, value_in_memory v h.1, value_pairs_in_memory ps h.2)

pub value_in_range : (v : Val) → IsDocumentInRange (document_of v) → IsInRange v
value_in_range v h = memory.in_range v (value_in_memory v h)

mutual
  unfolding document_of

  pub document_in_range : (v : Val) → IsInMemory v → IsDocumentInRange (document_of v)
  document_in_range null h = tt
  document_in_range (bool b) h = tt
  document_in_range (integer z) h = tt
  document_in_range (float w bits) h = h
  document_in_range (bytes b) h = h
  document_in_range (text b) h = h
  document_in_range (array vs) h = (subst (λ n. n < 2 ^ 64) (sym (documents_counted vs)) h.0, documents_in_range vs h.1)
  document_in_range (map ps) h = (subst (λ n. n < 2 ^ 64) (sym (pairs_counted ps)) h.0, document_pairs_in_range ps h.1)
  document_in_range (tag n v) h = (h.0, document_in_range v h.1)

  documents_in_range : (vs : Vals) → AreInMemory vs → AreDocumentsInRange (documents_of vs)
  documents_in_range no_vals h = tt
  documents_in_range (val v vs) h = (document_in_range v h.0, documents_in_range vs h.1)

  document_pairs_in_range : (ps : Pairs) → ArePairsInMemory ps → AreDocumentPairsInRange (document_pairs_of ps)
  document_pairs_in_range no_pairs h = tt
  document_pairs_in_range (pair k v ps) h = (document_in_range k h.0, document_in_range v h.1, document_pairs_in_range ps h.2)
