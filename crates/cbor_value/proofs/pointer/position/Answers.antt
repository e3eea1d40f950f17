use Rattle.std.proofs.Common.{◌≡◌, ◌≢◌, ◌≤◌, get_or, length, sym, ◌∙◌, arith, true≢false}
use Rattle.std.proofs.lemmas.Str.Pattern.{starts_char}
use Rattle.cbor_value.proofs.Pointers.{position-parsed, position-sign, position-leading_zero}
use Rattle.cbor_value.proofs.pointer.position.Goals as goal
use Rattle.cbor_value.proofs.pointer.position.Goals.{
  else-token-gt1-via-then-token-gt1+else-starts_with-2,
  else-token-gt1-via-else-token-gt1,
}

pub returns-then-starts_with : goal.returns-then-starts_with
returns-then-starts_with c =
    let t = c.args.token.now in
    let r = c.starts_with in
    let sign = starts_char 43 t r.result r.ensures.cases (omega arith) (omega arith) in
    position-sign t (sign.0 c.if-starts_with.true)

pub returns-then-starts_with-2 : goal.returns-then-starts_with-2
returns-then-starts_with-2 c =
    let t = c.args.token.now in
    let r = c.starts_with-then-token-gt1 in
    let zero = starts_char 48 t r.result r.ensures.cases (omega arith) (omega arith) in
    position-leading_zero t (zero.0 c.if-starts_with-2.true) c.if-token-gt1.true

pub returns : goal.returns
returns c =
    let t = c.args.token.now in
    let r = c.starts_with in
    let sign = starts_char 43 t r.result r.ensures.cases (omega arith) (omega arith) in
    let unsigned : get_or t 0 0 ≢ 43 =
    λ e. true≢false (sym (sign.1 e) ∙ c.if-starts_with.false) in
    let alone : get_or t 0 0 ≡ 48 → length t ≤ 1 =
    λ e. elim c.else-token-gt1.branch [
      | else-token-gt1-via-then-token-gt1+else-starts_with-2 w ↦
          let q = w.starts_with-then-token-gt1 in
          let zero = starts_char 48 t q.result q.ensures.cases (omega arith) (omega arith) in
          absurd (true≢false (sym (zero.1 e) ∙ w.if-starts_with-2.false))
      | else-token-gt1-via-else-token-gt1 w ↦ w.if-token-gt1.false
    ] in
    c.ok.ensures.value
    ∙ position-parsed t c.parse.result c.parse.ensures.value.0 unsigned alone
