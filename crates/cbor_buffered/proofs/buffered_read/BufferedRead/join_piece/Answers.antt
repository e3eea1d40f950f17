use Rattle.std.proofs.Common.{◌≡◌, ◌+◌, ◌-◌, take, drop, ap, ◌∙◌, sym, arith}
use Rattle.cbor_buffered.specs.Block.{in_block}
use Rattle.cbor_buffered.proofs.BlockBytes.{front_same}
use Rattle.cbor_buffered.proofs.TakenInTurn.{joined}
use Rattle.cbor_buffered.proofs.buffered_read.BufferedRead.join_piece.Goals as goal

pub returns-clause-ok : goal.returns-clause-ok
returns-clause-ok g c =
    let u = c.wanted.new.self in
    let n = c.in_ok-count.count in
    let b = g.B.Block.held u.block in
    let whole = g.met.B.Block.whole u.block in
    let ends : u.taken + n - u.taken ≡ n = omega arith in
    let part : take (u.taken + n - u.taken) (drop u.taken c.bytes.result.now) ≡ take n (in_block u) =
    ap (λ m. take m (drop u.taken c.bytes.result.now)) ends
    ∙ ap (λ l. take n (drop u.taken l)) c.bytes.ensures
    ∙ sym (front_same b u.taken n u.end c.in_ok-count.ensures.count.2) in
    joined _ (g.R.Read.remaining u.reader) b u.buffer.items
    c.extend_from_slice.new.self.items _ u.taken n u.end u.filled u.start
    c.in_ok-count.ensures.count.2 (omega arith) (omega (arith, whole)) c.in_ok-count.ensures.stays
    c.in_ok-extend_from_slice.ensures.items part
