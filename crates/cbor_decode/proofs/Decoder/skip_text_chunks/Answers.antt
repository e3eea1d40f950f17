use Rattle.std.proofs.Common.{◌≡◌, ◌∙◌, ◌-◌, ℕ, List, length, Ok, sym, ap}
use Rattle.std.proofs.lemmas.Result.{err_from_is_err_and}
use Rattle.std.specs.Str.Lossy.{utf8_valid_len}
use Rattle.cbor_model.specs.Formats.{all_formats}
use Rattle.cbor_model.specs.Reader.{chunks_at, text_chunks_at, exceeds_most}
use Rattle.cbor_decode.specs.Gives.{values}
use Rattle.cbor_decode.specs.Heads.{joined_of, passed}
use Rattle.cbor_decode.specs.Strings.{checked_by}
use Rattle.cbor_decode.proofs.SkippedStrings.{text_chunks_skipped, text_chunks_cut}
use Rattle.cbor_decode.proofs.Steps.{stopped_map, gives_then}
use Rattle.cbor_decode.proofs.Decoder.skip_text_chunks.Goals as goal

pub returns-in_err-join-clause-read : goal.returns-in_err-join-clause-read
returns-in_err-join-clause-read g c =
    let is_err = err_from_is_err_and c.from_residual.result c.from_residual.ensures.1 in
    rw (is_err.1, is_err.2) (stopped_map g.R.Source.refusals (λ l bs. joined_of (chunks_at (exceeds_most l.room) 0 3 bs)) (λ l bs. passed (text_chunks_at (values all_formats l) bs)) _ _ _ (λ l bs f is. text_chunks_cut l bs f is) c.in_err-join.ensures.read)

pub returns-clause-read : goal.returns-clause-read
returns-clause-read g c =
    let b = (g.R.Source.source c.join.new.self.source).buffer in
    let bad = c.bad_in-bad.result in
    let is : bad ≡ length b - utf8_valid_len b = c.bad_in-bad.ensures ∙ ap (λ (x : List ℕ). length x - utf8_valid_len x) c.buffer.ensures in
    gives_then g.R.Source.refusals (λ u. u) (λ l. checked_by bad) (λ l bs. passed (text_chunks_at (values all_formats l) bs)) _ _ _ _ _ (λ l bs rest. joined_of (chunks_at (exceeds_most l.room) 0 3 bs) ≡ Ok (b, rest))
    (λ l bs mid here. text_chunks_skipped l bs b mid here ∙ ap (λ (k : ℕ). checked_by k mid) (sym is)) c.in_ok-join.ensures.read c.skip_checked.ensures.read
