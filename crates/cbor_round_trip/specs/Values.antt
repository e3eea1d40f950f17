-- Values are read back, whose maps list their keys in order.
use Rattle.std.proofs.Common.{◌≡◌, Bool, ap, sym, ◌∙◌}
use Rattle.cbor_model.specs.Canonical.{IsOrdered}
use Rattle.cbor_model.specs.Document.{document_of, raw_of}
use Rattle.cbor_model.specs.Plain.{Val}
use Rattle.cbor_model.specs.Value.{value}
use Rattle.cbor_model.proofs.facts.Documents.{document_item}
use Rattle.cbor_model.proofs.facts.Laws.{canonical_reads_back}
use Rattle.cbor_round_trip.specs.ReadBack.{IsReadBack}

item_value : (v : Val) → IsOrdered v → (p g : Bool) → value (raw_of (document_of v) p g) ≡ v
item_value v ordered p g = ap value (document_item v p g) ∙ canonical_reads_back v ordered

pub value_back : {A : Type 0} (view : A → Val)
    → IsReadBack (λ x. document_of (view x)) (λ c r x. view x ≡ value r) (λ x. IsOrdered (view x)) (Unit {0})
value_back view = record {
  itself = λ x fit l p g. sym (item_value (view x) fit p g);
  alone = λ x y fit l p g h. ap document_of (h ∙ item_value (view x) fit p g);
  single = λ d c r x y h k. ap document_of (h ∙ sym k);
}
