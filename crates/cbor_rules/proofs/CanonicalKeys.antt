-- The canonical encodings of keys.
use Rattle.std.proofs.Common.{◌≡◌, ℕ, ◌<◌, ◌^◌, Bool, false, List, length, None, Ok, Err, pos, negsuc, inl, inr, refl, sym, subst, ◌∙◌}
use Rattle.std.specs.Prelude.{Result, ◌↔◌, IfErr, IfOk, IsTrue}
use Rattle.std.specs.Result.{is_ok}
use Rattle.cbor_model.specs.Canonical.{canon, canonical, canonical_all, canonical_pairs, IsStorable}
use Rattle.cbor_model.specs.Document.{document_of, IsStorableDocument}
use Rattle.cbor_model.specs.Laws.{ReaderFinds, SpellsValue}
use Rattle.cbor_model.specs.Formats.{all_formats}
use Rattle.cbor_model.specs.Plain.{Val, null, bool, integer, float, bytes, text, array, map, tag, Vals, no_vals, val, Pairs, no_pairs, pair}
use Rattle.cbor_model.specs.Raw.{AreBytes, Raw}
use Rattle.cbor_model.specs.Readable.{SpellsAs}
use Rattle.cbor_model.specs.Reader.{Fault, read_value}
use Rattle.cbor_model.proofs.facts.Laws.{canonical_reads_back, reader_accepts}
use Rattle.cbor_model.proofs.facts.Documents.{storable_document}
use Rattle.cbor_model.proofs.facts.Reader.{all_allowed}
use Rattle.cbor_decode.specs.HasChunks.{AsksWhere, HasChunks, SomeHasChunks, SomePairHasChunks}
use Rattle.cbor_de.specs.Whole.{from_slice_asks}
use Rattle.cbor_io.specs.declared.error.Error.{Error}
use Rattle.cbor_io.specs.declared.error.ErrorCode.{ErrorCode}
use Rattle.cbor_io.specs.declared.error.ErrorCode.TheVariants.{Message, OutOfMemory}
use Rattle.cbor_io.specs.Error.{code_of, IsOutOfMemory}
use Rattle.cbor_ser.specs.Written.{IsNotWritten, IsRefusedBy}
use Rattle.cbor_strict.specs.Strict.{SpellsCanonically, SpellsCanonicallyAs}
use Rattle.cbor_rules.specs.Rules.{canonical_key}

-- that of an acceptable item
pub key_of_value : (bs : List ℕ) (v : Val) → length bs < 2 ^ 64 → SpellsValue bs v → canonical_key bs ≡ canon v
key_of_value bs v short spelt = rw (reader_accepts None bs v short spelt tt) refl

-- the canonical encoding of a value stands for itself
pub canonical_itself : (bs : List ℕ) (v : Val) → length bs < 2 ^ 64 → SpellsCanonically bs v → canonical_key bs ≡ bs
unfolding canon
canonical_itself bs v short spelt =
    let item : SpellsValue bs v = record { item = canonical v; acceptable = spelt.acceptable; spelled = spelt.spelled; valued = sym (canonical_reads_back v spelt.ordered) } in
    key_of_value bs v short item ∙ spelt.spelled

-- ---- strict reading of them takes no memory

mutual
  unfolding canonical

  no_chunks : (v : Val) → HasChunks (canonical v) → ⊥
  no_chunks null has = has
  no_chunks (bool b) has = has
  no_chunks (integer (pos n)) has = has
  no_chunks (integer (negsuc n)) has = has
  no_chunks (float w bits) has = has
  no_chunks (bytes b) has = has
  no_chunks (text b) has = has
  no_chunks (array vs) has = none_in_all vs has
  no_chunks (map ps) has = none_in_pairs ps has
  no_chunks (tag n v) has = no_chunks v has

  none_in_all : (vs : Vals) → SomeHasChunks (canonical_all vs) → ⊥
  none_in_all no_vals has = has
  none_in_all (val v vs) has = elim has [ inl one ↦ no_chunks v one | inr others ↦ none_in_all vs others ]

  none_in_pairs : (ps : Pairs) → SomePairHasChunks (canonical_pairs ps) → ⊥
  none_in_pairs no_pairs has = has
  none_in_pairs (pair k v ps) has = elim has [
    | inl one ↦ no_chunks k one
    | inr more ↦ elim more [ inl one ↦ no_chunks v one | inr others ↦ none_in_pairs ps others ]
  ]

pub none_asked : (v : Val) → AsksWhere from_slice_asks (HasChunks (canonical v)) → ⊥
none_asked v (inl whole) = absurd cc
none_asked v (inr joins) = no_chunks v joins.1

-- each of them is read, by a type that reads each item and asks for no memory for these
pub canonical_taken : {A : Type 0} (reads : Raw → A → Type 0) (asks : Raw → Type 0) (bs : List ℕ) (r : Result A Error) (b : Bool) (x : A) → ((item : Raw) → reads item x) → ((v : Val) → asks (canonical v) → ⊥)
    → (SpellsCanonicallyAs reads bs x → IfErr r IsOutOfMemory) → ((spelt : SpellsAs all_formats reads bs x) → IfErr r (λ e. IsOutOfMemory e → asks spelt.item)) → b ≡ is_ok r
    → (v : Val) → SpellsCanonically bs v → IsTrue b
unfolding canon
canonical_taken reads asks bs (Ok y) b x all none accepted memory same v spelt = same
canonical_taken reads asks bs (Err e) b x all none accepted memory same v spelt =
    let ran_out = accepted (record { tree = v; spelt = spelt; means = all (canonical v) }) in
    absurd (none v (memory (record { item = canonical v; acceptable = spelt.acceptable; keys = all_allowed (canonical v); spelled = spelt.spelled; means = all (canonical v) }) ran_out))

-- where strict reading reads them
pub canonical_read : {A : Type 0} (reads : Raw → A → Type 0) (bs : List ℕ) (r : Result A Error) (b : Bool) → length bs < 2 ^ 64 → IfOk r (SpellsCanonicallyAs reads bs) → b ≡ is_ok r → IsTrue b → canonical_key bs ≡ bs
canonical_read reads bs (Ok x) b short found same holds = canonical_itself bs found.tree short found.spelt
canonical_read reads bs (Err e) b short found same holds = absurd (let never : IsTrue false = subst IsTrue same holds in cc)

module _ (finds : ReaderFinds) (bs : List ℕ) (are : AreBytes bs) where
  -- where each value that the bytes encode is encoded so, they stand for themselves
  pub key_itself : ((v : Val) → SpellsValue bs v → bs ≡ canon v) → canonical_key bs ≡ bs
  key_itself is_canon = by (read_value bs) refl
    where
      by : (r : Result Val Fault) → read_value bs ≡ r → canonical_key bs ≡ bs
      by (Ok v) is = rw is (sym (is_canon v (finds None bs v are is)))
      by (Err f) is = rw is refl

-- ---- what is refused

memory_code : (code : ErrorCode) (S : Type 0) → S → IsRefusedBy code S → code ≡ OutOfMemory
memory_code (Message told) S s h = absurd (h.1 s)
memory_code OutOfMemory S s h = refl
memory_code _ S s h = absurd h

pub only_memory : (v : Val) (e : Error) → IsNotWritten (IsStorableDocument (document_of v)) e → IsStorable v → IsOutOfMemory e
only_memory v e h stored = (memory_code e.code (IsStorableDocument (document_of v)) (storable_document v stored) h.0, h.1)

pub unread : (b : Bool) (e : Error) → IsTrue b ↔ (code_of e ≡ OutOfMemory) → b ≡ false → IsOutOfMemory e → ⊥
unread b e is none memory = absurd (let yes = is.1 memory.0 in cc)
