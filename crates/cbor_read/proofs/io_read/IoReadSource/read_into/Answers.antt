use Rattle.std.proofs.Common.{rules, ◌-◌, length, length-take-le, sym, subst, arith}
use Rattle.cbor_read.specs.Source.{TookKept}
use Rattle.cbor_read.proofs.Asking.{asks_more}
use Rattle.cbor_read.proofs.ReaderSteps.{into_refused, kept_more, filled_more}
use Rattle.cbor_read.proofs.io_read.IoReadSource.read_into.Goals as goal

pub returns-in_err-count-clause-err : goal.returns-in_err-count-clause-err
returns-in_err-count-clause-err g c =
    search (
      rules,
      into_refused _ _ _ _
          (length c.args.buf.now) _ c.pieces.invariant.2 c.in_err-count.ensures.took,
    )

pub pieces-preserved : goal.pieces-preserved
pieces-preserved g c =
    let taken = kept_more _ _ _ _ _ c.pieces.invariant.2 c.in_ok-count.ensures.took.1 in
    let left = length c.pieces.buf - c.pieces.filled in
    let front = filled_more c.pieces.filled left c.in_ok-count.count c.pieces.buf
    c.take_piece.new.piece c.pieces.invariant.1 c.in_ok-count.ensures.took.0 in
    let within = length-take-le c.pieces.filled c.pieces.buf c.pieces.invariant.1 in
    let asked = asks_more c.args.self.now c.pieces.self c.take_piece.new.self left
    (length c.args.buf.now)
    (omega (arith, within, c.pieces.invariant.2.count, c.pieces.invariant.1, c.pieces.invariant.0))
    c.pieces.invariant.3 (search (rules, c.in_ok-count.ensures.asks)) in
    (search rules, search rules, subst (TookKept _ _) (sym front) taken, asked)
