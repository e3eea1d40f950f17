use Rattle.std.proofs.Common.{◌≡◌, ◌+◌, ◌-◌, ◌++◌, length, take, subst, sym, ap, ◌∙◌, arith, rules}
use Rattle.std.proofs.lemmas.Slice.{take-put_mid}
use borrow.Rule.Slice.PartMut.{put_mid}
use Rattle.cbor_read.specs.Source.{TookKept}
use Rattle.cbor_buffered.specs.Block.{in_block}
use Rattle.cbor_buffered.proofs.BlockBytes.{taken_length}
use Rattle.cbor_buffered.proofs.TakenInTurn.{kept_more}
use Rattle.cbor_buffered.proofs.buffered_read.BufferedReadSource.read_into.Goals as goal

pub pieces-preserved : goal.pieces-preserved
pieces-preserved g c =
    let u = c.wanted.new.self in
    let n = c.in_ok-count.count in
    let b = g.B.Block.held u.block in
    let whole = g.met.B.Block.whole u.block in
    let at = c.pieces.filled in
    let old = c.pieces.buf in
    let new = c.copy_from_slice.new.self in
    let k = at + n - at in
    let len = taken_length b u.taken n u.end c.in_ok-count.ensures.count.2
    (omega (arith, whole)) in
    let copied : new ≡ take n (in_block u) =
    c.copy_from_slice.ensures.after ∙ ap (take n) c.ahead.ensures.bytes in
    let long : length new ≡ n = ap length copied ∙ len in
    let front : take (at + n) (put_mid at k old new) ≡ take at old ++ take n (in_block u) =
    take-put_mid at k old new (at + n) (omega arith) (omega arith)
    ∙ ap (λ l. take at old ++ l) copied in
    let taken = kept_more _ _ _ _ (take at old) (take n (in_block u)) c.pieces.invariant.2
    c.in_ok-count.ensures.stays c.advance.ensures.took in
    (search rules, search rules, subst (TookKept _ _) (sym front) taken)
