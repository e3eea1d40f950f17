-- No string of a document's item is in chunks, but of what was encoded elsewhere.
use Rattle.std.proofs.Common.{◌≡◌, ℕ, Bool, true, false, List, [], ◌∷◌, pos, negsuc, ℤ, refl}
use Rattle.cbor_model.specs.Document.{Doc, Docs, DocPairs, Fields, null, bool, integer, float, bytes, text, sequence, mapping, structure, unit_variant, newtype_variant, tuple_variant, struct_variant, tagged, encoded, no_docs, doc, no_doc_pairs, doc_pair, no_fields, field, identifier, raw_of, raws_of, raw_pairs_of, raw_fields_of, variant_of, docs}
use Rattle.cbor_model.specs.Canonical.{canonical_integer}
use Rattle.cbor_model.specs.Raw.{Raw, Raws, longest_joined, longest_joined_all, longest_joined_pairs}
use Rattle.cbor_round_trip.specs.NoChunks.{HasNoChunks, HaveNoChunks, PairsHaveNoChunks, FieldsHaveNoChunks}

of_integer : (z : ℤ) → longest_joined (canonical_integer z) ≡ 0
of_integer (pos n) = refl
of_integer (negsuc n) = refl

of_identifier : (packed : Bool) (i : ℕ) (n : List ℕ) → longest_joined (identifier packed i n) ≡ 0
of_identifier false i n = refl
of_identifier true i n = refl

of_variant : (legacy : Bool) (key content id : Raw) (parts : Raws) → longest_joined key ≡ 0 → longest_joined content ≡ 0 → longest_joined id ≡ 0
    → longest_joined_all parts ≡ 0 → longest_joined (variant_of legacy key content id parts) ≡ 0
of_variant false key content id parts k c i ps = rw (k, c) refl
of_variant true key content id parts k c i ps = rw (i, ps) refl

mutual
  unfolding raw_of raws_of raw_pairs_of raw_fields_of

  pub no_chunks : (d : Doc) (packed legacy : Bool) → HasNoChunks d → longest_joined (raw_of d packed legacy) ≡ 0
  no_chunks null packed legacy h = refl
  no_chunks (bool b) packed legacy h = refl
  no_chunks (integer z) packed legacy h = of_integer z
  no_chunks (float w bits) packed legacy h = refl
  no_chunks (bytes b) packed legacy h = refl
  no_chunks (text b) packed legacy h = refl
  no_chunks (sequence l ds) packed legacy h = no_chunks_all ds packed legacy h
  no_chunks (mapping l ps) packed legacy h = no_chunks_pairs ps packed legacy h
  no_chunks (structure fs) packed legacy h = no_chunks_fields fs packed legacy h
  no_chunks (unit_variant i n) packed legacy h = of_identifier packed i n
  no_chunks (newtype_variant i n d) packed legacy h =
      let content = no_chunks d packed legacy h in
      of_variant legacy _ _ _ _ refl content (of_identifier packed i n) (rw content refl)
  no_chunks (tuple_variant i n ds) packed legacy h =
      let parts = no_chunks_all ds packed legacy h in
      of_variant legacy _ _ _ _ refl parts (of_identifier packed i n) parts
  no_chunks (struct_variant i n fs) packed legacy h =
      let fields = no_chunks_fields fs packed legacy h in
      of_variant legacy _ _ _ _ (of_identifier packed i n) fields (of_identifier packed i n) (rw fields refl)
  no_chunks (tagged n d) packed legacy h = no_chunks d packed legacy h
  no_chunks (encoded r) packed legacy h = h

  no_chunks_all : (ds : Docs) (packed legacy : Bool) → HaveNoChunks ds → longest_joined_all (raws_of ds packed legacy) ≡ 0
  no_chunks_all no_docs packed legacy h = refl
  no_chunks_all (doc d ds) packed legacy h = rw (no_chunks d packed legacy h.0, no_chunks_all ds packed legacy h.1) refl

  no_chunks_pairs : (ps : DocPairs) (packed legacy : Bool) → PairsHaveNoChunks ps → longest_joined_pairs (raw_pairs_of ps packed legacy) ≡ 0
  no_chunks_pairs no_doc_pairs packed legacy h = refl
  no_chunks_pairs (doc_pair k v ps) packed legacy h =
      rw (no_chunks k packed legacy h.0, no_chunks v packed legacy h.1, no_chunks_pairs ps packed legacy h.2) refl

  no_chunks_fields : (fs : Fields) (packed legacy : Bool) → FieldsHaveNoChunks fs → longest_joined_pairs (raw_fields_of fs packed legacy) ≡ 0
  no_chunks_fields no_fields packed legacy h = refl
  no_chunks_fields (field i n d fs) packed legacy h =
      rw (of_identifier packed i n, no_chunks d packed legacy h.0, no_chunks_fields fs packed legacy h.1) refl

-- of a list, where there is none of each item's
pub items_unchunked : {A : Type 0} (document : A → Doc) (xs : List A) → ((x : A) → HasNoChunks (document x)) → HaveNoChunks (docs document xs)
items_unchunked document [] each = tt
items_unchunked document (x ∷ xs) each = (each x, items_unchunked document xs each)
