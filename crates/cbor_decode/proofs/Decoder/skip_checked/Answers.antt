use Rattle.std.proofs.Common.{◌≡◌, ◌+◌, ℕ, List, length, refl, sym, subst, arith}
use Rattle.cbor_model.specs.Reader.{Reads}
use Rattle.cbor_io.specs.ReadError.{why, place, error_code}
use Rattle.cbor_io.specs.declared.read_error.ReadError.{ReadError}
use Rattle.cbor_io.specs.declared.read_error.ReadErrorCode.{ReadErrorCode}
use Rattle.cbor_io.specs.declared.read_error.ReadErrorCode.TheVariants.{InvalidUtf8}
use Rattle.cbor_decode.specs.Gives.{FailsBy, Limits, ReportsIo, Stops}
use Rattle.cbor_decode.specs.Strings.{checked_by}
use Rattle.cbor_decode.proofs.SourceCalls.{kept_stops}
use Rattle.cbor_decode.proofs.SkippedStrings.{checked_bad}
use Rattle.cbor_decode.proofs.Steps.{took_none, step_same}
use Rattle.cbor_decode.proofs.Decoder.skip_checked.Goals as goal

pub returns-then-bad-eq0-clause-read : goal.returns-then-bad-eq0-clause-read
returns-then-bad-eq0-clause-read g c = step_same _ _ (λ l bs. rw c.if-bad-eq0.true refl)

pub returns-clause-read : goal.returns-clause-read
returns-clause-read g c =
    let s = g.R.Source.source c.args.self.now.source in
    let bad = c.args.bad in
    let read : (Limits → List ℕ → Reads (Unit {0})) = λ l. checked_by bad in
    let P : (ReadError → Type 0) = λ e. (why e ≡ InvalidUtf8) × (place e + bad ≡ s.offset) in
    let stops : ((e : ReadError) → P e → Stops g.R.Source.refusals read s e) = λ e h. record {
      reported = λ bs reports.
          let left : ℕ = length bs + bad in
          let at : place e + left ≡ s.offset + length bs = omega (arith, h.1) in
          subst (λ (k : ReadErrorCode). FailsBy (ReportsIo g.R.Source.refusals) (error_code k) (s.offset + length bs) (place e) (checked_by bad bs)) (sym h.0) (left, at, checked_bad bad bs c.if-bad-eq0.false);
    } in
    rw c.refuse_back.ensures.source (kept_stops g.R.Source.refusals s read _ _ P stops (took_none s) c.refuse_back.ensures.refused c.refuse_back.ensures.kept)
