use Rattle.std.proofs.Common.{ℕ, List, None, IfErr, subst}
use Rattle.cbor_model.specs.Formats.{all_formats}
use Rattle.cbor_io.specs.Error.{IsOutOfMemory}
use Rattle.cbor_read.specs.Source.{start_of_slice}
use Rattle.cbor_de.specs.Forms.{MayReport}
use Rattle.cbor_de.specs.Whole.{Answers, from_slice_asks, from_slice_context}
use Rattle.cbor_convert.proofs.encoded.Encoded.decode.Goals as goal

-- what `from_slice` promises of the bytes that `as_slice` gives

pub returns-clause-answers : goal.returns-clause-answers
returns-clause-answers g c =
    let t = g.T.Readable in
    subst (λ (bs : List ℕ). Answers t.passes_over t.total t.reports_faults (t.reads from_slice_context) (t.asks_memory from_slice_asks) IsOutOfMemory None bs c.from_slice.result) c.as_slice.ensures c.from_slice.ensures.answers

pub returns-clause-form : goal.returns-clause-form
returns-clause-form g c =
    subst (λ (bs : List ℕ). IfErr c.from_slice.result (MayReport g.T.Readable.wrong_forms all_formats (start_of_slice bs None))) c.as_slice.ensures c.from_slice.ensures.form
