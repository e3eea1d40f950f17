use Rattle.std.proofs.Common.{sym, ap, ◌∙◌}
use Rattle.cbor_model.specs.Plain.{map, Pairs, no_pairs}
use Rattle.cbor_model.specs.FiniteMap.{put_all}
use Rattle.cbor_model.specs.Document.{declared}
use Rattle.cbor_value.proofs.facts.Views.{view_map}
use Rattle.cbor_convert.proofs.MemoryAnswers.{is_made}
use Rattle.cbor_convert.proofs.BuilderParts.{named_stored}
use Rattle.cbor_convert.proofs.Meanings.{value_mapping, value_structure}
use Rattle.cbor_convert.proofs.pairs.PairList.into_map.Goals as goal

pub returns-clause-pairs : goal.returns-clause-pairs
returns-clause-pairs c = λ ps h.
    is_made (view_map c.in_ok-from_pairs.field-0 ∙ ap map (c.in_ok-from_pairs.ensures.listed ∙ ap (λ (qs : Pairs). put_all qs no_pairs) h.values) ∙ sym (value_mapping declared ps)) h.storable

pub returns-clause-fields : goal.returns-clause-fields
returns-clause-fields c = λ fs h.
    is_made (view_map c.in_ok-from_pairs.field-0 ∙ ap map (c.in_ok-from_pairs.ensures.listed ∙ ap (λ (qs : Pairs). put_all qs no_pairs) h.values) ∙ sym (value_structure fs)) (named_stored fs h.storable)
