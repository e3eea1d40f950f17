use Rattle.std.proofs.Common.{add-zero}
use Rattle.std.proofs.KnownBytes.{prepend_known-nil}
use Rattle.cbor_buffered.proofs.buffered_read.BufferedRead.over.Goals as goal

pub returns-clause-ok : goal.returns-clause-ok
returns-clause-ok g c =
    let none = prepend_known-nil (g.R.Read.remaining c.args.reader) in
    simp (c.new.ensures.items, none, add-zero c.args.offset)
