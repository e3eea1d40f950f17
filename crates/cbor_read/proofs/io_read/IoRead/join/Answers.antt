use Rattle.std.proofs.Common.{rules}
use Rattle.cbor_read.proofs.Lengthened.{joined_then}
use Rattle.cbor_read.proofs.ReaderSteps.{join_refused}
use Rattle.cbor_read.proofs.io_read.IoRead.join.Goals as goal

pub returns-in_err-left-clause-err : goal.returns-in_err-left-clause-err
returns-in_err-left-clause-err g c =
    search (
      rules,
      join_refused _ _ _ _ _ c.args.n _
          (search rules) c.pieces.invariant.2 c.in_err-left.ensures.err,
    )

pub returns-in_err-left-clause-kept : goal.returns-in_err-left-clause-kept
returns-in_err-left-clause-kept g c =
    search (rules, joined_then _ _ _ _ c.pieces.invariant.2 c.in_err-left.ensures.kept)
