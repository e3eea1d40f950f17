use Rattle.std.proofs.Common.{length}
use Rattle.cbor_model.specs.Head.{short}
use Rattle.cbor_io.specs.Head.{major_number}
use Rattle.cbor_ser.proofs.Beginnings.{and_then, stops}
use Rattle.cbor_ser.proofs.items.put_string.Goals as goal

pub returns-in_err-put_head-clause-written : goal.returns-in_err-put_head-clause-written
returns-in_err-put_head-clause-written g c = stops c.args.content.now _ c.from_residual.ensures.0 c.in_err-put_head.ensures.written.err

pub returns-clause-written : goal.returns-clause-written
returns-clause-written g c =
    and_then _ _ _ (short (major_number c.args.major) (length c.args.content.now)) c.args.content.now _ c.in_ok-put_head.ensures.written.ok c.put.ensures.written
