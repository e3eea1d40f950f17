use Rattle.std.proofs.Common.{◌≡◌, Ok}
use Rattle.std.proofs.lemmas.Result.{err_from_is_err_and}
use Rattle.cbor_model.specs.Formats.{all_formats}
use Rattle.cbor_model.specs.Plain as plain
use Rattle.cbor_model.specs.Reader.{chunks_at, checked_text, text_chunks_at, exceeds_most}
use Rattle.cbor_decode.specs.Strings.{text_view}
use Rattle.cbor_decode.specs.Gives.{values}
use Rattle.cbor_decode.specs.Heads.{joined_of}
use Rattle.cbor_decode.proofs.Steps.{stopped_map, gives_then}
use Rattle.cbor_decode.proofs.Texts.{text_joined, text_fault}
use Rattle.cbor_decode.proofs.Decoder.text_chunks.Goals as goal

pub returns-in_err-bytes-clause-read : goal.returns-in_err-bytes-clause-read
returns-in_err-bytes-clause-read g c =
    let passed = err_from_is_err_and c.from_residual.result c.from_residual.ensures.1 in
    rw (passed.1, passed.2) (stopped_map g.R.Source.refusals (λ l bs. joined_of (chunks_at (exceeds_most l.room) 0 3 bs)) (λ l. text_chunks_at (values all_formats l)) _ _ _ (λ l bs f is. text_fault l bs f is) c.in_err-bytes.ensures.read)

pub returns-clause-read : goal.returns-clause-read
returns-clause-read g c =
    let b = c.in_ok-bytes.bytes.items in
    gives_then g.R.Source.refusals text_view (λ l. checked_text (values all_formats l) (plain.text b) b) (λ l. text_chunks_at (values all_formats l)) _ _ _ _ _ (λ l bs rest. joined_of (chunks_at (exceeds_most l.room) 0 3 bs) ≡ Ok (b, rest))
    (λ l bs mid is. text_joined l bs b mid is) c.in_ok-bytes.ensures.read c.checked.ensures.read
