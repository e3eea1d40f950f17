use Rattle.std.proofs.lemmas.Result.{on_ok_weaker}
use Rattle.cbor_ser.proofs.WriteSteps.{and_then, stopped_then, stopped_before, if_refused, refused_so}
use Rattle.cbor_ser.proofs.part_list.Tuple2RefWriteItems.write_items.Goals as goal

pub returns-in_err-serialize_step-clause-err : goal.returns-in_err-serialize_step-clause-err
returns-in_err-serialize_step-clause-err g c = refused_so c.from_residual.result c.serialize_step.new.refusal (λ e h ds. stopped_before _ h) c.in_err-serialize_step.ensures.err

pub returns-clause-ok : goal.returns-clause-ok
returns-clause-ok g c = on_ok_weaker c.write_items.result (λ h ds last r rest. and_then c.in_ok-serialize_step.ensures.ok (h ds last r rest)) c.write_items.ensures.ok

pub returns-clause-err : goal.returns-clause-err
returns-clause-err g c = if_refused c.write_items.result c.write_items.new.refusal (λ e h ds. stopped_then c.in_ok-serialize_step.ensures.ok (h ds)) c.write_items.ensures.err
