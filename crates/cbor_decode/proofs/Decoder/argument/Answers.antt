use Rattle.std.proofs.Common.{rules, ◌≤◌, ◌≡◌, ◌∙◌, ℕ, List, Err, length, refl, arith, ltb, true, false}
use Rattle.std.proofs.lemmas.Result.{err_from_is_err_and}
use Rattle.std.proofs.lemmas.Bool.{lt-ltb, le-ltb, ne_eqb}
use Rattle.std.specs.Int.{w8, w16, w32, w64}
use Rattle.cbor_model.specs.Refusal.{unassigned_code}
use Rattle.cbor_model.specs.Reader.{number_at, number_behind}
use Rattle.cbor_io.specs.declared.read_error.ReadErrorCode.TheVariants.{UnassignedCode}
use Rattle.cbor_decode.proofs.Steps.{step_same, step_map, stopped_map, gives_map}
use Rattle.cbor_decode.proofs.SourceCalls.{fault_stops}
use Rattle.cbor_decode.proofs.WholeHeads.{at_24, at_25, at_26, at_27}
use Rattle.cbor_decode.proofs.Decoder.argument.Goals as goal

pub returns-in_err-number_of_1-in-24-clause-read : goal.returns-in_err-number_of_1-in-24-clause-read
returns-in_err-number_of_1-in-24-clause-read g c =
    let passed = err_from_is_err_and c.from_residual.result c.from_residual.ensures.1 in
    rw (passed.1, passed.2) (stopped_map g.R.Source.refusals (λ l. number_at w8) (λ l. number_behind c.args.low) _ _ _ (λ l bs f is. at_24 c.args.low bs c.in-24.is ∙ is) c.in_err-number_of_1-in-24.ensures.read)

pub returns-in_ok-number_of_1-in-24-clause-read : goal.returns-in_ok-number_of_1-in-24-clause-read
returns-in_ok-number_of_1-in-24-clause-read g c = step_map _ _ _ _ (λ l bs rest is. at_24 c.args.low bs c.in-24.is ∙ is) c.in_ok-number_of_1-in-24.ensures.read

pub returns-in_err-number_of_2-in-25-clause-read : goal.returns-in_err-number_of_2-in-25-clause-read
returns-in_err-number_of_2-in-25-clause-read g c =
    let passed = err_from_is_err_and c.from_residual-in_err-number_of_2-in-25.result c.from_residual-in_err-number_of_2-in-25.ensures.1 in
    rw (passed.1, passed.2) (stopped_map g.R.Source.refusals (λ l. number_at w16) (λ l. number_behind c.args.low) _ _ _ (λ l bs f is. at_25 c.args.low bs c.in-25.is ∙ is) c.in_err-number_of_2-in-25.ensures.read)

pub returns-in_ok-number_of_2-in-25-clause-read : goal.returns-in_ok-number_of_2-in-25-clause-read
returns-in_ok-number_of_2-in-25-clause-read g c = step_map _ _ _ _ (λ l bs rest is. at_25 c.args.low bs c.in-25.is ∙ is) c.in_ok-number_of_2-in-25.ensures.read

pub returns-in_err-number_of_4-in-26-clause-read : goal.returns-in_err-number_of_4-in-26-clause-read
returns-in_err-number_of_4-in-26-clause-read g c =
    let passed = err_from_is_err_and c.from_residual-in_err-number_of_4-in-26.result c.from_residual-in_err-number_of_4-in-26.ensures.1 in
    rw (passed.1, passed.2) (stopped_map g.R.Source.refusals (λ l. number_at w32) (λ l. number_behind c.args.low) _ _ _ (λ l bs f is. at_26 c.args.low bs c.in-26.is ∙ is) c.in_err-number_of_4-in-26.ensures.read)

pub returns-in_ok-number_of_4-in-26-clause-read : goal.returns-in_ok-number_of_4-in-26-clause-read
returns-in_ok-number_of_4-in-26-clause-read g c = step_map _ _ _ _ (λ l bs rest is. at_26 c.args.low bs c.in-26.is ∙ is) c.in_ok-number_of_4-in-26.ensures.read

pub returns-in-27-clause-read : goal.returns-in-27-clause-read
returns-in-27-clause-read g c = gives_map g.R.Source.refusals (λ n. n) (λ l. number_at w64) (λ l. number_behind c.args.low) _ _ _ _ (λ l bs. at_27 c.args.low bs c.in-27.is) c.number_of_8.ensures.read

pub returns-in-0-to-23-clause-read : goal.returns-in-0-to-23-clause-read
unfolding number_behind
returns-in-0-to-23-clause-read g c =
    let below : ltb c.args.low 24 ≡ true = lt-ltb c.args.low 24 (omega (arith, c.in-0-to-23)) in
    step_same _ _ (λ l bs. rw below refl)

-- no other value of these five bits is assigned
none_left : (low : ℕ) (bs : List ℕ) → 24 ≤ low → (low ≡ 24 → ⊥) → (low ≡ 25 → ⊥) → (low ≡ 26 → ⊥) → (low ≡ 27 → ⊥) → number_behind low bs ≡ Err (record { why = unassigned_code; left = length bs })
unfolding number_behind
none_left low bs a b c d e =
    let big : ltb low 24 ≡ false = le-ltb low 24 a in
    rw (big, ne_eqb low 24 b, ne_eqb low 25 c, ne_eqb low 26 d, ne_eqb low 27 e) refl

pub returns-in_default-clause-read : goal.returns-in_default-clause-read
returns-in_default-clause-read g c =
    let a : 24 ≤ c.args.low = search rules in
    let b : (c.args.low ≡ 24 → ⊥) = search rules in
    let d : (c.args.low ≡ 25 → ⊥) = search rules in
    let e : (c.args.low ≡ 26 → ⊥) = search rules in
    let f : (c.args.low ≡ 27 → ⊥) = search rules in
    rw c.refuse.ensures.source (fault_stops g.R.Source.refusals (g.R.Source.source c.args.self.now.source) (λ l. number_behind c.args.low) _ _ UnassignedCode unassigned_code (λ at end r h. h)
    (λ l bs. none_left c.args.low bs a b d e f) c.refuse.ensures.refused c.refuse.ensures.kept)
