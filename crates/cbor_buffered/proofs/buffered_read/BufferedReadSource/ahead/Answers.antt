use Rattle.std.proofs.Common.{◌≡◌, ◌-◌, drop, take, length, ap, sym, subst, IfSome, ◌∙◌, arith}
use Rattle.std.proofs.lemmas.Slice.{between_is}
use Rattle.std.specs.Io.KnownBytes.{prepend_known}
use Rattle.cbor_buffered.specs.Block.{read_ahead, in_block}
use Rattle.cbor_buffered.proofs.BlockBytes.{at_front}
use Rattle.cbor_buffered.proofs.buffered_read.BufferedReadSource.ahead.Goals as goal

pub returns-clause-front : goal.returns-clause-front
returns-clause-front g c =
    let s = c.args.self.now in
    let b = g.B.Block.held s.block in
    let whole = g.met.B.Block.whole s.block in
    let rem = g.R.Read.remaining s.reader in
    let hand : take (s.end - s.taken) (drop s.taken c.bytes.result.now) ≡ in_block s =
    ap (λ l. take (s.end - s.taken) (drop s.taken l)) c.bytes.ensures
    ∙ between_is b s.taken s.end in
    subst (λ l. IfSome (prepend_known (read_ahead s) rem) (λ bs. take (length l) bs ≡ l)) (sym hand)
    (at_front rem b s.taken s.end s.filled (omega arith) (omega arith)
    (omega (arith, whole)))
