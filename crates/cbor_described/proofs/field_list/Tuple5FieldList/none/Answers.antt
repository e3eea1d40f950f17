use Rattle.std.proofs.Common.{ap, None, ◌∙◌}
use Rattle.cbor_described.specs.FieldLists.{slots_over}
use Rattle.cbor_described.proofs.FieldLists.{none_over}
use Rattle.cbor_described.proofs.field_list.Tuple5FieldList.none.Goals as goal

pub returns : goal.returns
returns g c k = ap (λ rest. (None, (None, (None, (None, rest))))) (ap (slots_over (λ p. p.4) (g.F.FieldList.fields k)) (c.none.ensures k) ∙ none_over (λ p. p.4) (g.F.FieldList.fields k))
