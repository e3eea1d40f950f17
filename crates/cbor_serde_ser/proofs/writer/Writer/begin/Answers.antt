use Rattle.std.proofs.Common.{inr}
use Rattle.std.proofs.lemmas.Result.{err_from_is_err_and}
use Rattle.cbor_serde_ser.specs.Document.{level_start, opened}
use Rattle.cbor_serde_ser.specs.State.{state}
use Rattle.cbor_serde_ser.proofs.Refusing.{opens_not}
use Rattle.cbor_serde_ser.proofs.writer.Writer.begin.Goals as goal

pub returns-in_err-item-clause-refused : goal.returns-in_err-item-clause-refused
returns-in_err-item-clause-refused c =
    let level = opened c.args.left c.args.is_map in
    let bytes = level_start level in
    let passed = err_from_is_err_and c.from_residual.result c.from_residual.ensures.1 in
    rw (passed.1, passed.2) (inr (opens_not (state c.args.self.now) bytes level (c.in_err-item.ensures.refused bytes)))
