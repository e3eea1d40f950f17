use Rattle.std.proofs.Common.{arith, inr}
use Rattle.std.proofs.lemmas.Result.{MatchResult-weaker}
use Rattle.serde_cbor.proofs.facts.Sequences.{refused_again}
use Rattle.serde_cbor.proofs.facts.Values.{spelled_value}
use Rattle.use_content_store.proofs.Keeping.{keeps_log}
use Rattle.use_content_store.proofs.store.Store.append.Goals as goal

pub returns-clause-ok : goal.returns-clause-ok
returns-clause-ok g c = MatchResult-weaker c.put.result c.put.ensures.ok (λ put h. (_, spelled_value _ _ c.in_ok-from_slice.ensures.answers.found, h)) (λ e h. tt)

pub returns-clause-wrote : goal.returns-clause-wrote
returns-clause-wrote g c = MatchResult-weaker c.put.result c.put.ensures.wrote (λ put h. (_, spelled_value _ _ c.in_ok-from_slice.ensures.answers.found, h)) (λ e h. tt)

pub returns-clause-keeps_log : goal.returns-clause-keeps_log
returns-clause-keeps_log g c =
    let read = c.normalised_once.ensures c.args.bytes.now _ (omega arith) (spelled_value _ _ c.in_ok-from_slice.ensures.answers.found) in
    keeps_log c.args.self.now c.put.new.self _ (g.W.Write.written c.args.log.now) (g.W.Write.written c.put.new.log) read c.put.result c.put.ensures.ok c.put.ensures.wrote

pub returns-clause-part : goal.returns-clause-part
returns-clause-part g c = MatchResult-weaker c.put.result c.put.ensures.part (λ put h. tt) (λ e h. inr (_, spelled_value _ _ c.in_ok-from_slice.ensures.answers.found, h))

pub returns-clause-refused : goal.returns-clause-refused
returns-clause-refused g c = MatchResult-weaker c.put.result c.put.ensures.refused (λ put h. tt) (λ e h. refused_again e (spelled_value _ _ c.in_ok-from_slice.ensures.answers.found) h)
