-- What a canonical spelling says of its value.
use Rattle.std.proofs.Common.{◌≡◌, ℕ, List, Bool, sym, ap, subst, ◌∙◌}
use Rattle.cbor_model.specs.Plain.{Val}
use Rattle.cbor_model.specs.Order.{lex}
use Rattle.cbor_model.specs.Canonical.{IsStorable, canon}
use Rattle.cbor_model.specs.InRange.{IsInRange}
use Rattle.cbor_model.specs.InMemory.{IsInMemory}
use Rattle.cbor_model.specs.Laws.{SpellsValue}
use Rattle.cbor_model.proofs.facts.Laws.{byte_order, equal_bytes, least_spelling, normalised_once, in_memory_is_in_range, written_reads_back}
use Rattle.cbor_model.specs.Document.{Doc, document_bytes, IsStorableDocument, IsDocumentInRange}
use Rattle.cbor_model.proofs.facts.Documents.{document_is_canonical, storable_value, value_in_memory}
use Rattle.cbor_ser.specs.Bytes.{StandFor, CompareAs, AreLeast, ReadBack, ReadAs, SpellsValues}

pub stand_for : (bytes : List ℕ) (v : Val) → IsStorable v → IsInRange v → bytes ≡ canon v → StandFor bytes v
stand_for bytes v stored fits written w stored' fits' = (
  λ same. equal_bytes v w stored stored' fits fits' (sym written ∙ same),
  λ same. written ∙ ap canon same,
)

pub compare_as : (bytes : List ℕ) (v : Val) → IsStorable v → IsInRange v → bytes ≡ canon v → CompareAs bytes v
compare_as bytes v stored fits written w stored' fits' = byte_order v w stored stored' fits fits' ∙ ap (λ (b : List ℕ). lex b (canon w)) (sym written)

pub are_least : (bytes : List ℕ) (v : Val) → bytes ≡ canon v → AreLeast bytes v
are_least bytes v written = subst (λ (b : List ℕ). AreLeast b v) (sym written) (least_spelling v)

pub read_back : (bytes : List ℕ) (v : Val) → bytes ≡ canon v → ReadBack bytes v
read_back bytes v written read short spells = subst (λ (b : List ℕ). SpellsValue b v) (sym written) (normalised_once read v short spells)

pub read_as : (bytes : List ℕ) (v : Val) → IsStorable v → IsInMemory v → bytes ≡ canon v → ReadAs bytes v
read_as bytes v stored held written ordered nests = subst (λ (b : List ℕ). SpellsValue b v) (sym written) (written_reads_back v stored ordered held nests)

-- what a document's bytes say where it is a value's, whatever the settings
pub spells_values : (bytes : List ℕ) (d : Doc) (p l : Bool) → IsStorableDocument d → IsDocumentInRange d → bytes ≡ document_bytes d p l → SpellsValues bytes d
spells_values bytes d p l storable fits is v same =
    let stored = storable_value v (subst IsStorableDocument same storable) in
    let held = value_in_memory v (subst IsDocumentInRange same fits) in
    let in_range = in_memory_is_in_range v held in
    let written = is ∙ ap (λ (z : Doc). document_bytes z p l) same ∙ document_is_canonical v p l in
    record {
      storable = stored;
      in_range = in_range;
      written = written;
      exact = stand_for bytes v stored in_range written;
      in_order = compare_as bytes v stored in_range written;
      least = are_least bytes v written;
      read_back = read_back bytes v written;
      read_as = read_as bytes v stored held written;
    }
