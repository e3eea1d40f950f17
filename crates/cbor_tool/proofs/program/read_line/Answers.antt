use Rattle.std.proofs.Common.{arith}
use Rattle.std.proofs.lemmas.Result.{err_from_is_err_and}
use Rattle.cbor_tool.proofs.Stops.{StopsReading-at_byte, StopsReading-out_of_memory}
use Rattle.cbor_tool.proofs.program.read_line.Goals as goal

pub returns-in_err-byte-clause-err : goal.returns-in_err-byte-clause-err
returns-in_err-byte-clause-err g c =
    let before = c.bytes.invariant in
    let p = err_from_is_err_and c.from_residual.result c.from_residual.ensures.1 in
    rw (p.1, p.2) (StopsReading-at_byte c.in_err-byte.field-0.0 _ _ _ _ _ _ before.in_line before.counted before.consumed
    c.in_err-byte.ensures.err)

pub bytes-smaller : goal.bytes-smaller
bytes-smaller g c = let next = rw c.in-Some.is at c.in_ok-byte.ensures.ok in omega (arith, next.0)

pub returns-in_err-push-clause-err : goal.returns-in_err-push-clause-err
returns-in_err-push-clause-err g c =
    let before = c.bytes.invariant in
    let next = rw c.in-Some.is at c.in_ok-byte.ensures.ok in
    let p = err_from_is_err_and c.from_residual-in_err-push.result
    c.from_residual-in_err-push.ensures.1 in
    rw p.1 (StopsReading-out_of_memory p.0 _ _ _ _ _ _ before.in_line c.if-byte-eq10.false
    before.consumed next.2 p.2)
