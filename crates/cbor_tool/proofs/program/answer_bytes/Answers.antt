use Rattle.std.proofs.lemmas.Result.{on_ok_weaker}
use Rattle.cbor_tool.proofs.Answers.{answered_shown}
use Rattle.cbor_tool.proofs.program.answer_bytes.Goals as goal

pub returns-in_default-clause-ok : goal.returns-in_default-clause-ok
returns-in_default-clause-ok c =
    on_ok_weaker c.answer_value.result
    (λ h. answered_shown c.args.mode c.in_default.not-ByRules c.args.bytes.now _ h)
    c.answer_value.ensures.ok

pub returns-in-ByRules-clause-ok : goal.returns-in-ByRules-clause-ok
returns-in-ByRules-clause-ok c = rw c.in-ByRules.is (rw (← c.rules.ensures) c.answer_by_rules.ensures.ok)
