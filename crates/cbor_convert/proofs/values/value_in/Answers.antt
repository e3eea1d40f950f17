use Rattle.std.proofs.Common.{ap, ◌∙◌, arith, refl}
use Rattle.cbor_read.specs.Sources.{input_of_slice}
use Rattle.cbor_convert.proofs.Spelled.{is_value, memory_alone}
use Rattle.cbor_convert.proofs.values.value_in.Goals as goal

pub returns-in-Ok : goal.returns-in-Ok
returns-in-Ok c = λ r good spelled.
    is_value c.args.bytes.now r good spelled (omega arith) _ _ _ _ c.value.new.self.refusal c.in-Ok.value c.new-de.ensures.formats refl (ap input_of_slice c.new-de.ensures.source ∙ c.new.ensures) c.in-Ok.ensures.read

pub returns : goal.returns
returns c = λ r good spelled.
    memory_alone c.args.bytes.now r good spelled (omega arith) _ _ _ _ c.in-Err.refused _ c.new-de.ensures.formats refl (ap input_of_slice c.new-de.ensures.source ∙ c.new.ensures) c.in-Err.ensures.read c.error.ensures.reports
