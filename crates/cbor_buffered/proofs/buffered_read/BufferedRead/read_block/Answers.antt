use Rattle.std.proofs.Common.{refl}
use Rattle.std.proofs.lemmas.Result.{err_from_is_err_and}
use Rattle.cbor_buffered.proofs.BlockBytes.{kept_on, none_left}
use Rattle.cbor_buffered.proofs.Refusals.{fault_byte}
use Rattle.cbor_buffered.proofs.buffered_read.BufferedRead.read_block.Goals as goal

pub returns-in_err-count-clause-err : goal.returns-in_err-count-clause-err
returns-in_err-count-clause-err g c =
    let s = c.args.self.now in
    let p = err_from_is_err_and c.from_residual.result c.from_residual.ensures.1 in
    let kept = kept_on (g.R.Read.remaining s.reader) (g.R.Read.remaining c.read_from.new.reader) _ _
    (none_left (g.B.Block.held s.block) s.taken s.filled c.requires)
    (none_left _ s.taken s.filled c.requires) c.in_err-count.ensures.bytes in
    rw p.1 (fault_byte _ _ _ p.0 p.2.0 p.2.1
    (record { bytes = kept; count = refl; room = refl; kept = refl }))
