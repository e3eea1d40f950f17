use Rattle.std.proofs.Common.{◌⊎◌, inl, inr}
use Rattle.std.proofs.lemmas.Result.{on_ok_weaker}
use Rattle.cbor_tool.specs.RunSteps.{answered_in}
use Rattle.cbor_tool.proofs.Answers.{IsAnswer-decoded, IsAnswer-not_hexadecimal}
use Rattle.cbor_tool.proofs.program.answer.Goals as goal

other_of : {P Q : Type 0} → P ⊎ Q → (P → ⊥) → Q
other_of (inl p) h = absurd (h p)
other_of (inr q) h = q

pub returns-in-Ok-clause-ok : goal.returns-in-Ok-clause-ok
returns-in-Ok-clause-ok c =
    on_ok_weaker c.answer_bytes.result
    (λ h. IsAnswer-decoded (answered_in c.args.mode) _ _ _ c.in-Ok.ensures.ok (rw c.deref.ensures.value at h))
    c.answer_bytes.ensures.ok

pub returns-in_default-clause-ok : goal.returns-in_default-clause-ok
returns-in_default-clause-ok c =
    on_ok_weaker c.replace.result
    (λ is. IsAnswer-not_hexadecimal (answered_in c.args.mode) _ _ _
    (other_of c.in-Err.ensures.err c.in_default.not-OutOfMemory) is)
    c.replace.ensures.ok
