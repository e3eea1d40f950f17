use Rattle.std.proofs.Common.{◌≡◌, ◌⊎◌, inl, inr, None, refl, sym, ap, ◌∙◌}
use Rattle.std.proofs.lemmas.Result.{on_ok_weaker}
use Rattle.cbor_model.specs.Allowed.{limits_of}
use Rattle.cbor_model.specs.Value.{value}
use Rattle.serde_cbor.specs.FirstRefusal.{ReportsFirst}
use Rattle.serde_cbor.specs.Error.{code_of, error_text, IsOutOfMemory}
use Rattle.serde_cbor.specs.declared.error.Error.{Error}
use Rattle.serde_cbor.specs.declared.error.ErrorCode.TheVariants.{OutOfMemory}
use Rattle.cbor_tool.specs.Answer.{kept, departing, unread}
use Rattle.cbor_tool.proofs.Answers.{ordinary_text}
use Rattle.cbor_tool.proofs.program.answer_by_rules.Goals as goal

pub returns-in-Ok-clause-ok : goal.returns-in-Ok-clause-ok
returns-in-Ok-clause-ok c =
    let s = c.in-Ok.ensures.answers.found in
    let r = s.spelt.item in
    on_ok_weaker c.replace_by_hex.result
    (λ is. kept (value r) (record { item = r; acceptable = s.spelt.acceptable; spelled = s.spelt.spelled; valued = refl }) s.keeps is)
    c.replace_by_hex.ensures.ok

pub returns-in-Err-Departs-clause-ok : goal.returns-in-Err-Departs-clause-ok
returns-in-Err-Departs-clause-ok c =
    on_ok_weaker c.replace.result
    (λ is. departing c.in-Err-Departs.departure (rw c.in-Err-Departs.field-0-is at c.in-Err-Departs.ensures.answers.departed)
    (is ∙ c.as_bytes.ensures.value ∙ c.in_ok-refusal-in-Err-Departs.ensures.ok))
    c.replace.ensures.ok

-- what is reported, where memory did not run out
reports_of : {P : Type 0} (e : Error) → IsOutOfMemory e ⊎ P → (code_of e ≡ OutOfMemory → ⊥) → P
reports_of e (inl memory) other = absurd (other memory.0)
reports_of e (inr reports) other = reports

pub returns-clause-ok : goal.returns-clause-ok
returns-clause-ok c =
    let e = c.in-Err-Unread.error in
    on_ok_weaker c.answer_error.result
    (λ h. unread (error_text e) (λ v spelt. h.0 (rw c.in-Err-Unread.field-0-is at (c.in-Err-Unread.ensures.answers.every v spelt)).0)
    (ordinary_text c.args.bytes.now e (reports_of e (rw c.in-Err-Unread.field-0-is at c.in-Err-Unread.ensures.answers.first) h.0)) h.1)
    c.answer_error.ensures.ok
