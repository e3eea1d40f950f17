-- The item that a form's bytes encode: the value's canonical item.
use Rattle.std.proofs.Common.{◌≡◌, ◌∙◌, ◌≤◌, ℕ, List, false, sym, ap, subst, arith}
use Rattle.std.specs.Prelude.{Result, Ok, Err, IfOk}
use Rattle.cbor_model.specs.Acceptable.{IsAcceptableWithin}
use Rattle.cbor_model.specs.Canonical.{canon, canonical, IsStorable, IsOrdered}
use Rattle.cbor_model.specs.Document.{document_bytes, document_of, raw_of, IsDocumentInRange}
use Rattle.cbor_model.specs.Plain.{Val}
use Rattle.cbor_model.specs.Raw.{depth}
use Rattle.cbor_model.proofs.facts.Documents.{document_is_canonical, document_item, storable_document}
use Rattle.cbor_model.proofs.facts.Laws.{canonical_reads_back, document_is_acceptable}
use Rattle.cbor_forms.specs.FormEncoding.{SpellsAtDepth}

canonical_spells : (v : Val) (bytes : List ℕ) → IsStorable v → IsOrdered v → IsDocumentInRange (document_of v) → bytes ≡ canon v → SpellsAtDepth bytes v
unfolding canon
canonical_spells v bytes stored ordered range written =
    let item = document_item v false false in
    let nests : depth (raw_of (document_of v) false false) ≤ depth (canonical v) = omega (arith, ap depth item) in record {
      item = canonical v;
      acceptable = subst (IsAcceptableWithin (depth (canonical v))) item
          (document_is_acceptable (depth (canonical v)) (document_of v) false false (storable_document v stored) range nests);
      spelled = sym written;
      valued = sym (canonical_reads_back v ordered);
    }

-- what is written of a value in canonical form
pub written_spells : {A E : Type 0} (items : A → List ℕ) (r : Result A E) (v s : Val) → v ≡ s → IsStorable v → IsOrdered s
    → IfOk r (λ x. IsDocumentInRange (document_of v)) → IfOk r (λ x. items x ≡ document_bytes (document_of v) false false) → IfOk r (λ x. SpellsAtDepth (items x) s)
written_spells items (Err e) v s same stored ordered range written = tt
written_spells items (Ok x) v s same stored ordered range written =
    subst (SpellsAtDepth (items x)) same
    (canonical_spells v (items x) stored (subst IsOrdered (sym same) ordered) range (written ∙ document_is_canonical v false false))
