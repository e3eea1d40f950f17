use Rattle.std.proofs.Common.{◌≡◌, ◌+◌, ◌-◌, ◌++◌, length, take, drop, ap, ◌∙◌, arith, rules}
use Rattle.std.proofs.KnownBytes.{append_known-grown, Keeps-refl}
use Rattle.std.proofs.lemmas.List.{with_items_is, places}
use borrow.Rule.Slice.PartMut.{put_mid}
use Rattle.cbor_writer.proofs.SentBlocks.{held_more}
use Rattle.cbor_writer.proofs.buffered_write.BufferedWrite.hold.Goals as goal

pub returns : goal.returns
returns g c =
    let s = c.args.self.now in
    let n = length c.args.piece.now in
    let k = s.held + n - s.held in
    let room = c.deref_mut.result.now in
    let copied = c.copy_from_slice.new.self in
    let whole = put_mid s.held k room copied in
    let long : length copied ≡ n = ap length c.copy_from_slice.ensures.after in
    let same : length whole ≡ s.block.len = search (rules, places) in
    append_known-grown _ _ _ _ _ (Keeps-refl _)
    (ap (λ l. drop s.sent (take (s.held + n) l)) (with_items_is s.block whole same)
    ∙ held_more room copied s.sent s.held k (s.held + n) (omega arith) (omega arith)
    (omega (arith, long))
    ∙ ap (λ l. drop s.sent (take s.held l) ++ copied) c.deref_mut.ensures.value
    ∙ ap (λ l. drop s.sent (take s.held s.block.items) ++ l) c.copy_from_slice.ensures.after)
