use Rattle.std.proofs.Common.{◌≡◌, ◌+◌, ℕ, List, length, Ok, sym, subst, arith}
use Rattle.std.proofs.lemmas.Result.{err_from_is_err_and}
use Rattle.cbor_model.specs.Formats.{all_formats}
use Rattle.cbor_model.specs.Head.{no_bytes}
use Rattle.cbor_model.specs.Reader.{Reads, bytes_at, text_at}
use Rattle.cbor_io.specs.ReadError.{place, error_code}
use Rattle.cbor_io.specs.declared.read_error.ReadError.{ReadError}
use Rattle.cbor_io.specs.declared.read_error.ReadErrorCode.{ReadErrorCode}
use Rattle.cbor_io.specs.declared.read_error.ReadErrorCode.TheVariants.{LengthOutOfRange}
use Rattle.cbor_decode.specs.Gives.{FailsBy, Limits, limits, values, ReportsIo, Stops, IsAt}
use Rattle.cbor_decode.specs.Heads.{passed}
use Rattle.cbor_decode.specs.Strings.{bad_of, checked_by}
use Rattle.cbor_decode.proofs.SourceCalls.{kept_stops}
use Rattle.cbor_decode.proofs.SkippedStrings.{text_skipped, text_cut, text_too_long}
use Rattle.cbor_decode.proofs.Steps.{took_none, stopped_at, gives_at}
use Rattle.cbor_decode.proofs.Decoder.skip_text.Goals as goal

pub returns-then-not-has_room-clause-read : goal.returns-then-not-has_room-clause-read
returns-then-not-has_room-clause-read g c =
    let s = g.R.Source.source c.args.self.now.source in
    let read : (Limits → List ℕ → Reads (Unit {0})) = λ l bs. passed (text_at (values all_formats l) no_bytes c.args.n bs) in
    let stops : ((e : ReadError) → IsAt LengthOutOfRange s.offset e → Stops g.R.Source.refusals read s e) = λ e at. record {
      reported = λ bs reports.
          let r = read (limits s bs) bs in
          let here : place e + length bs ≡ s.offset + length bs = omega (arith, at.1) in
          subst (λ (k : ReadErrorCode). FailsBy (ReportsIo g.R.Source.refusals) (error_code k) (s.offset + length bs) (place e) r) (sym at.0) (length bs, here, text_too_long s c.args.n bs (sym c.if-not-has_room.ensures));
    } in
    rw c.refuse.ensures.source (kept_stops g.R.Source.refusals s read _ _ (IsAt LengthOutOfRange s.offset) stops (took_none s) c.refuse.ensures.refused c.refuse.ensures.kept)

pub returns-in_err-bad-clause-read : goal.returns-in_err-bad-clause-read
returns-in_err-bad-clause-read g c =
    let is_err = err_from_is_err_and c.from_residual.result c.from_residual.ensures.1 in
    let s = g.R.Source.source c.args.self.now.source in
    let n = c.args.n in
    rw (is_err.1, is_err.2) (stopped_at g.R.Source.refusals (λ l bs. bad_of (bytes_at n bs)) (λ l bs. passed (text_at (values all_formats l) no_bytes n bs)) s _ _ (λ bs f is. text_cut s n bs f (sym c.if-not-has_room.ensures) is) c.in_err-bad.ensures.read)

pub returns-clause-read : goal.returns-clause-read
returns-clause-read g c =
    let s = g.R.Source.source c.args.self.now.source in
    let n = c.args.n in
    let bad = c.in_ok-bad.bad in
    gives_at g.R.Source.refusals (λ u. u) (λ l. checked_by bad) (λ l bs. passed (text_at (values all_formats l) no_bytes n bs)) s _ _ _ _ (λ l bs rest. bad_of (bytes_at n bs) ≡ Ok (bad, rest))
    (λ bs mid is. text_skipped s n bs bad mid (sym c.if-not-has_room.ensures) is) c.in_ok-bad.ensures.read c.skip_checked.ensures.read
