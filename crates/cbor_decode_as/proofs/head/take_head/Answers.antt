use Rattle.cbor_decode.specs.Heads.{head_at}
use Rattle.cbor_decode_as.proofs.heads.Opened.{head_advances, head_taken}
use Rattle.cbor_decode_as.proofs.head.take_head.Goals as goal

pub returns-clause-read : goal.returns-clause-read
returns-clause-read g c = head_taken g.R.Source.refusals _ _ _ c.in_ok-first.first _ _ c.in_ok-first.ensures.read c.head.ensures.read

pub returns-clause-taken : goal.returns-clause-taken
returns-clause-taken g c = head_advances g.R.Source.refusals (head_at c.in_ok-first.first) _ _ _ c.head.new.self.refusal c.head.result c.in_ok-first.ensures.taken c.head.ensures.read
