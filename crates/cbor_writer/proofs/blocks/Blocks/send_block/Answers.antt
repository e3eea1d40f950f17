use Rattle.std.proofs.Common.{◌-◌, take, drop, refl, sym, subst}
use Rattle.std.proofs.lemmas.List.{length-take-le}
use Rattle.std.proofs.lemmas.Slice.{between_is}
use Rattle.cbor_io.specs.Write.{Wrote}
use Rattle.cbor_writer.proofs.SentBlocks.{given_sent, sent_more, wrote_front}
use Rattle.cbor_writer.proofs.blocks.Blocks.send_block.Goals as goal

pub returns-clause-kept : goal.returns-clause-kept
returns-clause-kept g c =
    let s = c.args.self.now in
    let n = c.send-count.result.0 in
    let part = take (s.held - s.from) (drop s.from s.block) in
    given_sent _ _ s.sent n _ (take n part) _
    (sym (length-take-le n part c.send-count.ensures.bound))
    (sym (sent_more s.block s.block s.from s.held n refl)) c.send-count.ensures.written

pub returns-clause-sent : goal.returns-clause-sent
returns-clause-sent g c =
    let s = c.args.self.now in
    let part = take (s.held - s.from) (drop s.from s.block) in
    subst (λ l. Wrote (g.W.Write.contents s.writer.now) l
    (g.W.Write.contents c.send-count.new.writer) c.send-count.result.1)
    (between_is s.block s.from s.held)
    (wrote_front _ _ part c.send-count.result.0 _ c.send-count.ensures.all
    c.send-count.ensures.written)
