use Rattle.std.proofs.Common.{sym, ap, ◌∙◌}
use Rattle.cbor_model.specs.Plain.{array}
use Rattle.cbor_model.specs.Document.{declared}
use Rattle.cbor_value.proofs.facts.Views.{view_array}
use Rattle.cbor_convert.proofs.MemoryAnswers.{is_made}
use Rattle.cbor_convert.proofs.Meanings.{value_sequence}
use Rattle.cbor_convert.proofs.list.SerializeVec.end.Goals as goal

pub returns-clause-array : goal.returns-clause-array
returns-clause-array c = λ ds h. is_made (view_array c.args.self.items ∙ ap array h.values ∙ sym (value_sequence declared ds)) h.storable
