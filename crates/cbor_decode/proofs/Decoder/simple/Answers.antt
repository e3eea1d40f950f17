use Rattle.std.proofs.Common.{rules, ◌≡◌, ◌∙◌, ℕ, List, Ok, Err, length, refl}
use Rattle.std.proofs.lemmas.Result.{err_from_is_err_and}
use Rattle.std.proofs.lemmas.Bool.{ne_eqb}
use Rattle.std.specs.Int.{w16, w32, w64}
use Rattle.cbor_model.specs.Head.{no_bytes}
use Rattle.cbor_model.specs.Refusal.{unassigned_code}
use Rattle.cbor_model.specs.Reader.{◌>>=◌, number_at}
use Rattle.cbor_value.specs.declared.Float.TheVariants.{Half, Single, Double}
use Rattle.cbor_io.specs.declared.read_error.ReadErrorCode.TheVariants.{UnassignedCode}
use Rattle.cbor_decode.specs.declared.head.Head.TheVariants.{Float}
use Rattle.cbor_decode.specs.Heads.{simple_head}
use Rattle.cbor_decode.proofs.Steps.{step_same, step_map, stopped_map}
use Rattle.cbor_decode.proofs.SourceCalls.{fault_stops}
use Rattle.cbor_decode.proofs.Decoder.simple.Goals as goal

at_25 : (low : ℕ) (bs : List ℕ) → low ≡ 25 → simple_head low bs ≡ (number_at w16 bs >>= (λ n. Ok ((no_bytes, Float (Half n.0)), n.1)))
unfolding simple_head
at_25 low bs is = rw is refl

at_26 : (low : ℕ) (bs : List ℕ) → low ≡ 26 → simple_head low bs ≡ (number_at w32 bs >>= (λ n. Ok ((no_bytes, Float (Single n.0)), n.1)))
unfolding simple_head
at_26 low bs is = rw is refl

at_27 : (low : ℕ) (bs : List ℕ) → low ≡ 27 → simple_head low bs ≡ (number_at w64 bs >>= (λ n. Ok ((no_bytes, Float (Double n.0)), n.1)))
unfolding simple_head
at_27 low bs is = rw is refl

pub returns-in_err-number_of_2-in-25-clause-read : goal.returns-in_err-number_of_2-in-25-clause-read
returns-in_err-number_of_2-in-25-clause-read g c =
    let passed = err_from_is_err_and c.from_residual.result c.from_residual.ensures.1 in
    rw (passed.1, passed.2) (stopped_map g.R.Source.refusals (λ l. number_at w16) (λ l. simple_head c.args.low) _ _ _ (λ l bs f is. at_25 c.args.low bs c.in-25.is ∙ rw is refl) c.in_err-number_of_2-in-25.ensures.read)

pub returns-in_ok-number_of_2-in-25-clause-read : goal.returns-in_ok-number_of_2-in-25-clause-read
returns-in_ok-number_of_2-in-25-clause-read g c = step_map _ _ (λ l bs rest. number_at w16 bs ≡ Ok (c.in_ok-number_of_2-in-25.field-0, rest)) _ (λ l bs rest is. (no_bytes, at_25 c.args.low bs c.in-25.is ∙ rw is refl)) c.in_ok-number_of_2-in-25.ensures.read

pub returns-in_err-number_of_4-in-26-clause-read : goal.returns-in_err-number_of_4-in-26-clause-read
returns-in_err-number_of_4-in-26-clause-read g c =
    let passed = err_from_is_err_and c.from_residual-in_err-number_of_4-in-26.result c.from_residual-in_err-number_of_4-in-26.ensures.1 in
    rw (passed.1, passed.2) (stopped_map g.R.Source.refusals (λ l. number_at w32) (λ l. simple_head c.args.low) _ _ _ (λ l bs f is. at_26 c.args.low bs c.in-26.is ∙ rw is refl) c.in_err-number_of_4-in-26.ensures.read)

pub returns-in_ok-number_of_4-in-26-clause-read : goal.returns-in_ok-number_of_4-in-26-clause-read
returns-in_ok-number_of_4-in-26-clause-read g c = step_map _ _ (λ l bs rest. number_at w32 bs ≡ Ok (c.in_ok-number_of_4-in-26.field-0, rest)) _ (λ l bs rest is. (no_bytes, at_26 c.args.low bs c.in-26.is ∙ rw is refl)) c.in_ok-number_of_4-in-26.ensures.read

pub returns-in_err-number_of_8-in-27-clause-read : goal.returns-in_err-number_of_8-in-27-clause-read
returns-in_err-number_of_8-in-27-clause-read g c =
    let passed = err_from_is_err_and c.from_residual-in_err-number_of_8-in-27.result c.from_residual-in_err-number_of_8-in-27.ensures.1 in
    rw (passed.1, passed.2) (stopped_map g.R.Source.refusals (λ l. number_at w64) (λ l. simple_head c.args.low) _ _ _ (λ l bs f is. at_27 c.args.low bs c.in-27.is ∙ rw is refl) c.in_err-number_of_8-in-27.ensures.read)

pub returns-in_ok-number_of_8-in-27-clause-read : goal.returns-in_ok-number_of_8-in-27-clause-read
returns-in_ok-number_of_8-in-27-clause-read g c = step_map _ _ (λ l bs rest. number_at w64 bs ≡ Ok (c.in_ok-number_of_8-in-27.field-0, rest)) _ (λ l bs rest is. (no_bytes, at_27 c.args.low bs c.in-27.is ∙ rw is refl)) c.in_ok-number_of_8-in-27.ensures.read

pub returns-in-20-clause-read : goal.returns-in-20-clause-read
unfolding simple_head
returns-in-20-clause-read g c = step_same _ _ (λ l bs. (no_bytes, rw c.in-20.is refl))

pub returns-in-21-clause-read : goal.returns-in-21-clause-read
unfolding simple_head
returns-in-21-clause-read g c = step_same _ _ (λ l bs. (no_bytes, rw c.in-21.is refl))

pub returns-in-22-clause-read : goal.returns-in-22-clause-read
unfolding simple_head
returns-in-22-clause-read g c = step_same _ _ (λ l bs. (no_bytes, rw c.in-22.is refl))

pub returns-in-23-clause-read : goal.returns-in-23-clause-read
unfolding simple_head
returns-in-23-clause-read g c = step_same _ _ (λ l bs. (no_bytes, rw c.in-23.is refl))

pub returns-in-31-clause-read : goal.returns-in-31-clause-read
unfolding simple_head
returns-in-31-clause-read g c = step_same _ _ (λ l bs. (no_bytes, rw c.in-31.is refl))

-- no other value of these five bits is assigned
none_left : (low : ℕ) (bs : List ℕ) → (low ≡ 20 → ⊥) → (low ≡ 21 → ⊥) → (low ≡ 22 → ⊥) → (low ≡ 23 → ⊥) → (low ≡ 25 → ⊥) → (low ≡ 26 → ⊥) → (low ≡ 27 → ⊥) → (low ≡ 31 → ⊥) → simple_head low bs ≡ Err (record { why = unassigned_code; left = length bs })
unfolding simple_head
none_left low bs a b c d e f g h = rw (ne_eqb low 20 a, ne_eqb low 21 b, ne_eqb low 22 c, ne_eqb low 23 d, ne_eqb low 25 e, ne_eqb low 26 f, ne_eqb low 27 g, ne_eqb low 31 h) refl

pub returns-in_default-clause-read : goal.returns-in_default-clause-read
returns-in_default-clause-read g c =
    let low = c.args.low in
    let a : (low ≡ 20 → ⊥) = search rules in
    let b : (low ≡ 21 → ⊥) = search rules in
    let d : (low ≡ 22 → ⊥) = search rules in
    let e : (low ≡ 23 → ⊥) = search rules in
    let f : (low ≡ 25 → ⊥) = search rules in
    let h : (low ≡ 26 → ⊥) = search rules in
    let i : (low ≡ 27 → ⊥) = search rules in
    let j : (low ≡ 31 → ⊥) = search rules in
    rw c.refuse.ensures.source (fault_stops g.R.Source.refusals (g.R.Source.source c.args.self.now.source) (λ l. simple_head low) _ _ UnassignedCode unassigned_code (λ at end r h. h)
    (λ l bs. none_left low bs a b d e f h i j) c.refuse.ensures.refused c.refuse.ensures.kept)
