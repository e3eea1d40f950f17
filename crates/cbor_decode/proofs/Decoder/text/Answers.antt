use Rattle.std.proofs.Common.{◌≡◌, ◌+◌, ℕ, List, length, Ok, sym, subst, arith}
use Rattle.std.proofs.lemmas.Result.{err_from_is_err_and}
use Rattle.cbor_model.specs.Formats.{all_formats}
use Rattle.cbor_model.specs.Head.{no_bytes}
use Rattle.cbor_model.specs.Plain.{Val}
use Rattle.cbor_model.specs.Plain as plain
use Rattle.cbor_model.specs.Reader.{Reads, bytes_at, checked_text, text_at}
use Rattle.cbor_decode.specs.Strings.{text_view}
use Rattle.cbor_io.specs.ReadError.{place, error_code}
use Rattle.cbor_io.specs.declared.read_error.ReadErrorCode.{ReadErrorCode}
use Rattle.cbor_io.specs.declared.read_error.ReadError.{ReadError}
use Rattle.cbor_io.specs.declared.read_error.ReadErrorCode.TheVariants.{LengthOutOfRange}
use Rattle.cbor_decode.specs.Gives.{FailsBy, Limits, limits, values, ReportsIo, Stops, IsAt}
use Rattle.cbor_decode.proofs.SourceCalls.{kept_stops}
use Rattle.cbor_decode.proofs.Steps.{took_none, stopped_at, gives_at}
use Rattle.cbor_decode.proofs.Texts.{no_room, has_room, text_stop}
use Rattle.cbor_decode.proofs.Decoder.text.Goals as goal

pub returns-then-not-has_room-clause-read : goal.returns-then-not-has_room-clause-read
returns-then-not-has_room-clause-read g c =
    let s = g.R.Source.source c.args.self.now.source in
    let read : (Limits → List ℕ → Reads Val) = λ l. text_at (values all_formats l) no_bytes c.args.n in
    let stops : ((e : ReadError) → IsAt LengthOutOfRange s.offset e → Stops g.R.Source.refusals read s e) = λ e at. record {
      reported = λ bs reports.
          let r = read (limits s bs) bs in
          let here : place e + length bs ≡ s.offset + length bs = omega (arith, at.1) in
          subst (λ (k : ReadErrorCode). FailsBy (ReportsIo g.R.Source.refusals) (error_code k) (s.offset + length bs) (place e) r) (sym at.0) (length bs, here, no_room s bs c.args.n (sym c.if-not-has_room.ensures));
    } in
    rw c.refuse.ensures.source (kept_stops g.R.Source.refusals s read _ _ (IsAt LengthOutOfRange s.offset) stops (took_none s) c.refuse.ensures.refused c.refuse.ensures.kept)

pub returns-in_err-bytes-clause-read : goal.returns-in_err-bytes-clause-read
returns-in_err-bytes-clause-read g c =
    let passed = err_from_is_err_and c.from_residual.result c.from_residual.ensures.1 in
    let s = g.R.Source.source c.args.self.now.source in
    rw (passed.1, passed.2) (stopped_at g.R.Source.refusals (λ l. bytes_at c.args.n) (λ l. text_at (values all_formats l) no_bytes c.args.n) s _ _ (λ bs f is. text_stop s bs c.args.n f (sym c.if-not-has_room.ensures) is) c.in_err-bytes.ensures.read)

pub returns-clause-read : goal.returns-clause-read
returns-clause-read g c =
    let s = g.R.Source.source c.args.self.now.source in
    let b = c.in_ok-bytes.bytes.items in
    gives_at g.R.Source.refusals text_view (λ l. checked_text (values all_formats l) (plain.text b) b) (λ l. text_at (values all_formats l) no_bytes c.args.n) s _ _ _ _ (λ l bs rest. bytes_at c.args.n bs ≡ Ok (b, rest))
    (λ bs mid is. has_room s bs b mid c.args.n (sym c.if-not-has_room.ensures) is) c.in_ok-bytes.ensures.read c.checked.ensures.read
