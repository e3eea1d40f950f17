-- What is read of a value's canonical spelling.
use Rattle.std.proofs.Common.{◌≡◌, ℕ, false, List, [], sym, ◌∙◌, subst, append-nil, arith}
use Rattle.std.specs.Prelude.{Result, Ok, Err, IfOk, IfErr, OnOk}
use Rattle.std.specs.Result.{IsErrAnd}
use Rattle.cbor_model.specs.Raw.{Raw, IsWellFormed, depth}
use Rattle.cbor_model.specs.Acceptable.{IsAcceptable}
use Rattle.cbor_model.specs.Plain.{Val}
use Rattle.cbor_model.specs.Canonical.{canonical, canon, IsStorable}
use Rattle.cbor_model.specs.Document.{document_of, raw_of, IsStorableDocument, IsDocumentInRange}
use Rattle.cbor_model.specs.Formats.{all_formats}
use Rattle.cbor_model.specs.Readable.{SpellsAs}
use Rattle.cbor_model.proofs.facts.Documents.{document_item, storable_document}
use Rattle.cbor_model.proofs.facts.Laws.{document_is_acceptable, one_spelling}
use Rattle.cbor_model.proofs.facts.Reader.{all_allowed}
use Rattle.cbor_io.specs.declared.error.Error.{Error}
use Rattle.cbor_io.specs.declared.error.ErrorCode.{ErrorCode}
use Rattle.cbor_io.specs.declared.error.ErrorCode.TheVariants.{Message, OutOfMemory}
use Rattle.cbor_ser.specs.Written.{IsNotWritten, IsRefusedBy}
use Rattle.cbor_convert.proofs.ReadWritten.{memory_code}
use Rattle.cbor_io.specs.Error.{IsOutOfMemory}

-- ---- a storable value is refused for lack of memory alone

pub not_refused : {T : Type 0} (r : Result T Error) (v : Val) (e : Error) → IsNotWritten (IsStorableDocument (document_of v)) e → IsErrAnd r (λ x. x ≡ e) → IsStorable v → IfErr r IsOutOfMemory
not_refused (Ok x) v e h is stored = tt
not_refused (Err x) v e h is stored = subst IsOutOfMemory (sym is) (memory_code e.code (IsStorableDocument (document_of v)) (storable_document v stored) h.0, h.1)

-- what isn't written can't be stored, or memory ran out
pub refused_value : (v : Val) (e : Error) → IsNotWritten (IsStorableDocument (document_of v)) e → IsNotWritten (IsStorable v) e
refused_value v e h = (by e.code h.0, h.1)
  where
    by : (code : ErrorCode) → IsRefusedBy code (IsStorableDocument (document_of v)) → IsRefusedBy code (IsStorable v)
    by (Message text) h = (h.0, λ stored. h.1 (storable_document v stored))
    by OutOfMemory h = tt
    by _ h = absurd h

-- ---- the item that is read

module _ {A : Type 0} (reads : Raw → A → Type 0) (v : Val) (bs : List ℕ) (written : bs ≡ canon v) where
  well_formed : IsStorableDocument (document_of v) → IsDocumentInRange (document_of v) → IsWellFormed (canonical v)
  well_formed stored fits =
      let r = raw_of (document_of v) false false in
      subst IsWellFormed (document_item v false false) (document_is_acceptable (depth r) (document_of v) false false stored fits (omega arith)).fits

  one_item : (x : A) → IsStorableDocument (document_of v) → IsDocumentInRange (document_of v) → (h : SpellsAs all_formats reads bs x) → h.item ≡ canonical v
  unfolding canon
  one_item x stored fits h = (one_spelling h.item (canonical v) [] h.acceptable.fits (well_formed stored fits) (append-nil _ ∙ h.spelled ∙ written)).0

  pub value_acceptable : (r : Result A Error) → IsStorableDocument (document_of v) → IsDocumentInRange (document_of v) → IfOk r (SpellsAs all_formats reads bs) → OnOk r (IsAcceptable (canonical v))
  value_acceptable (Ok x) stored fits h = subst IsAcceptable (one_item x stored fits h) h.acceptable
  value_acceptable (Err e) stored fits h = tt

  pub value_read : (r : Result A Error) → IsStorableDocument (document_of v) → IsDocumentInRange (document_of v) → IfOk r (SpellsAs all_formats reads bs) → IfOk r (reads (canonical v))
  value_read (Ok x) stored fits h = subst (λ (r : Raw). reads r x) (one_item x stored fits h) h.means
  value_read (Err e) stored fits h = tt

  pub spelled_so : (x : A) → IsAcceptable (canonical v) → reads (canonical v) x → SpellsAs all_formats reads bs x
  unfolding canon
  spelled_so x good means = record { item = canonical v; acceptable = good; keys = all_allowed (canonical v); spelled = sym written; means = means }
