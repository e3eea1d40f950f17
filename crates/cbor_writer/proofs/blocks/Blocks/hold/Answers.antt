use Rattle.std.proofs.Common.{◌≡◌, ◌+◌, ◌-◌, ◌++◌, length, take, drop, ap, ◌∙◌, arith}
use Rattle.cbor_writer.proofs.SentBlocks.{given_more, held_more}
use Rattle.cbor_writer.proofs.blocks.Blocks.hold.Goals as goal

pub returns-clause-given : goal.returns-clause-given
returns-clause-given g c =
    let s = c.args.self.now in
    let n = length c.args.piece.now in
    let k = s.held + n - s.held in
    let copied = c.copy_from_slice.new.self in
    let long : length copied ≡ n = ap length c.copy_from_slice.ensures.after in
    given_more _ s.sent _ _ c.args.piece.now
    (held_more s.block copied s.from s.held k (s.held + n) s.ordered
    (omega (arith, s.within, s.whole)) (omega (arith, long))
    ∙ ap (λ l. drop s.from (take s.held s.block) ++ l) c.copy_from_slice.ensures.after)
