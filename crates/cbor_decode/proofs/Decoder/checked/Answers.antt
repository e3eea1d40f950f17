use Rattle.std.proofs.Common.{◌≡◌, ◌+◌, ◌-◌, ℕ, List, length, Ok, Err, ap, sym, subst, ◌∙◌, refl, arith, rules, eqb, true, false}
use Rattle.std.specs.String.{string_bytes}
use Rattle.std.specs.Str.{IsUtf8}
use Rattle.std.specs.Str.Lossy.{utf8_valid_len}
use Rattle.std.proofs.lemmas.Bool.{ne_eqb, eq-eqb}
use Rattle.std.proofs.lemmas.Str.{utf8_valid_len_le, utf8_valid_len-IsUtf8, IsUtf8-string_bytes}
use Rattle.cbor_model.specs.Formats.{all_formats}
use Rattle.cbor_model.specs.Plain.{Val, text}
use Rattle.cbor_model.specs.Refusal.{invalid_utf8}
use Rattle.cbor_model.specs.Reader.{Reads, checked_text}
use Rattle.cbor_model.proofs.facts.Reader.{IsUtf8-from_valid_len}
use Rattle.cbor_io.specs.ReadError.{why, place, error_code}
use Rattle.cbor_io.specs.declared.read_error.ReadError.{ReadError}
use Rattle.cbor_io.specs.declared.read_error.ReadErrorCode.TheVariants.{InvalidUtf8}
use Rattle.cbor_io.specs.declared.read_error.ReadErrorCode.{ReadErrorCode}
use Rattle.cbor_decode.specs.Gives.{FailsBy, Limits, limits, values, ReportsIo, Stops}
use Rattle.cbor_decode.proofs.SourceCalls.{kept_stops}
use Rattle.cbor_decode.proofs.Steps.{took_none, step_same}
use Rattle.cbor_decode.proofs.Decoder.checked.Goals as goal

-- a text that is UTF-8
passes : (l : Limits) (b bs : List ℕ) → IsUtf8 b → checked_text (values all_formats l) (text b) b bs ≡ Ok (text b, bs)
unfolding checked_text
passes l b bs is =
    let all : eqb (utf8_valid_len b) (length b) ≡ true = eq-eqb _ _ (utf8_valid_len-IsUtf8 b is) in
    rw all refl

not_utf8 : (l : Limits) (b bs : List ℕ) → (IsUtf8 b → ⊥) → checked_text (values all_formats l) (text b) b bs ≡ Err (record { why = invalid_utf8; left = length bs + (length b - utf8_valid_len b) })
unfolding checked_text
not_utf8 l b bs bad =
    let some : eqb (utf8_valid_len b) (length b) ≡ false = ne_eqb _ _ (λ same. bad (IsUtf8-from_valid_len b (eq-eqb _ _ same))) in
    rw some refl

pub overflow_sub-len : goal.overflow_sub-len
overflow_sub-len g c =
    let b = c.args.bytes.items in
    let long : c.len-len.result ≡ length b = search rules in
    let valid : c.valid_up_to-valid.result ≡ utf8_valid_len b = rw (c.valid_up_to-valid.ensures, c.utf8_error.ensures) c.in-Err.ensures.valid_len in
    omega (arith, utf8_valid_len_le b, long, valid)

pub returns-in-Ok-clause-read : goal.returns-in-Ok-clause-read
returns-in-Ok-clause-read g c =
    let b = c.args.bytes.items in
    let same : string_bytes c.in-Ok.text ≡ b = search rules in
    step_same _ _ (λ l bs.
    passes l b bs (subst IsUtf8 same (IsUtf8-string_bytes c.in-Ok.text))
    ∙ ap (λ (s : List ℕ). Ok (text s, bs)) (sym same))

pub returns-in-Err-clause-read : goal.returns-in-Err-clause-read
returns-in-Err-clause-read g c =
    let b = c.args.bytes.items in
    let s = g.R.Source.source c.args.self.now.source in
    let long : c.len-len.result ≡ length b = search rules in
    let valid : c.valid_up_to-valid.result ≡ utf8_valid_len b = rw (c.valid_up_to-valid.ensures, c.utf8_error.ensures) c.in-Err.ensures.valid_len in
    let bad : IsUtf8 b → ⊥ = λ is. cc (c.in-Err.ensures.succeeds is) in
    let read : (Limits → List ℕ → Reads Val) = λ l. checked_text (values all_formats l) (text b) b in
    let P : (ReadError → Type 0) = λ e. (why e ≡ InvalidUtf8) × (place e + (c.len-len.result - c.valid_up_to-valid.result) ≡ s.offset) in
    let stops : ((e : ReadError) → P e → Stops g.R.Source.refusals read s e) = λ e h. record {
      reported = λ bs reports.
          let left : ℕ = length bs + (length b - utf8_valid_len b) in
          let r = read (limits s bs) bs in
          let at : place e + left ≡ s.offset + length bs = omega (arith, h.1, long, valid, utf8_valid_len_le b) in
          subst (λ (k : ReadErrorCode). FailsBy (ReportsIo g.R.Source.refusals) (error_code k) (s.offset + length bs) (place e) r) (sym h.0) (left, at, not_utf8 (limits s bs) b bs bad);
    } in
    rw c.refuse_back.ensures.source (kept_stops g.R.Source.refusals s read _ _ P stops (took_none s) c.refuse_back.ensures.refused c.refuse_back.ensures.kept)
