use Rattle.cbor_buffered.proofs.Refusals.{ended_here}
use Rattle.cbor_buffered.proofs.buffered_read.BufferedRead.wanted.Goals as goal

pub returns-then-self-clause-err : goal.returns-then-self-clause-err
returns-then-self-clause-err g c =
    ended_here _ _ c.args.most c.eof.result c.requires c.eof.ensures.code c.eof.ensures.offset
    c.in_ok-prepare.ensures.stays (c.in_ok-prepare.ensures.end c.if-self.true)
