use Rattle.std.proofs.Common.{◌≡◌, ◌-◌, ◌++◌, length, take, drop, ap, ◌∙◌, subst, OnOk}
use Rattle.std.proofs.KnownBytes.{append_known-moved}
use Rattle.cbor_writer.proofs.SentBlocks.{sent_more, all_sent}
use Rattle.cbor_writer.proofs.buffered_write.BufferedWrite.send_block.Goals as goal

pub returns-in_err-answer-clause-kept : goal.returns-in_err-answer-clause-kept
returns-in_err-answer-clause-kept g c =
    let s = c.args.self.now in
    let n = c.send-count.result.0 in
    append_known-moved _ _ _ _ _ c.send-count.ensures.written
    (sent_more s.block.items c.deref.result.now s.sent s.held n c.deref.ensures.value)

pub returns-clause-kept : goal.returns-clause-kept
returns-clause-kept g c =
    let s = c.args.self.now in
    let n = c.send-count.result.0 in
    let block = c.deref.result.now in
    let part = take (s.held - s.sent) (drop s.sent block) in
    let all : n ≡ length part =
    subst (λ r. OnOk r (n ≡ length part)) c.in_ok-answer.was c.send-count.ensures.all in
    append_known-moved _ _ _ _ _ c.send-count.ensures.written
    (sent_more s.block.items block s.sent s.held n c.deref.ensures.value
    ∙ ap (λ l. take n part ++ l)
    (all_sent s.block.items block s.sent s.held n c.deref.ensures.value all))
