use Rattle.std.proofs.Common.{◌≡◌, ◌-◌, ◌∙◌, ℕ, length, ap, subst, arith, rules}
use Rattle.std.specs.String.{string_bytes}
use Rattle.std.specs.Str.{IsUtf8}
use Rattle.std.specs.Str.Lossy.{utf8_valid_len}
use Rattle.std.proofs.lemmas.Str.{utf8_valid_len_le, IsUtf8-string_bytes}
use Rattle.cbor_decode.specs.Gives.{IsErrorOf}
use Rattle.cbor_decode.specs.declared.refusal.Refused.{Refused}
use Rattle.cbor_decode_as.proofs.texts.PassedStrings.{kept_bad}
use Rattle.cbor_decode_as.proofs.string.checked.Goals as goal

pub overflow_sub-len : goal.overflow_sub-len
overflow_sub-len g c =
    let b = c.args.bytes.items in
    let long : c.len-len.result ≡ length b = search rules in
    let valid : c.valid_up_to-valid.result ≡ utf8_valid_len b = rw (c.valid_up_to-valid.ensures, c.utf8_error.ensures) c.in-Err.ensures.valid_len in
    omega (arith, utf8_valid_len_le b, long, valid)

pub returns-in-Ok-clause-read : goal.returns-in-Ok-clause-read
returns-in-Ok-clause-read g c =
    let same : string_bytes c.in-Ok.text ≡ c.args.bytes.items = search rules in
    (same, subst IsUtf8 same (IsUtf8-string_bytes c.in-Ok.text))

pub returns-in-Err-clause-read : goal.returns-in-Err-clause-read
returns-in-Err-clause-read g c =
    let b = c.args.bytes.items in
    let long : c.len-len.result ≡ length b = search rules in
    let valid : c.valid_up_to-valid.result ≡ utf8_valid_len b = rw (c.valid_up_to-valid.ensures, c.utf8_error.ensures) c.in-Err.ensures.valid_len in
    let bad : IsUtf8 b → ⊥ = λ is. cc (c.in-Err.ensures.succeeds is) in
    λ e is. kept_bad c.refuse_back.new.self.refusal b _ (c.len-len.result - c.valid_up_to-valid.result) e bad (ap (λ (n : ℕ). n - c.valid_up_to-valid.result) long ∙ ap (λ (n : ℕ). length b - n) valid) c.refuse_back.ensures.kept (subst (λ (r : Refused). IsErrorOf c.refuse_back.new.self.refusal r e) c.refuse_back.ensures.refused is)
