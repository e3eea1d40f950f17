use Rattle.std.proofs.Common.{false}
use Rattle.cbor_model.specs.Document.{IsStorableDocument, document_bytes}
use Rattle.cbor_de.specs.Whole.{from_reader_context}
use Rattle.cbor_convert.proofs.ReadWritten.{read_again, unwritten}
use Rattle.cbor_round_trip.proofs.WriteThenRead.{only_memory, same_again, spelled_again}
use Rattle.cbor_round_trip.proofs.laws.write_and_read.Goals as goal

pub returns-in_err-bytes-clause-answered : goal.returns-in_err-bytes-clause-answered
returns-in_err-bytes-clause-answered g c = λ fit stored nests.
    only_memory _ _ _ c.in_err-bytes.ensures.refused c.from_residual.ensures.1 stored

pub returns-clause-same : goal.returns-clause-same
returns-clause-same g c = λ fit.
    let w = c.in_ok-bytes.ensures in
    same_again g.T.Serialize.document g.T.Readable.reads g.T.RoundTrip.law.fits g.T.RoundTrip.law.determined g.met.T.RoundTrip.back c.args.value.now c.in_ok-bytes.bytes.items w.storable w.in_range w.written
    c.from_vec.result fit c.from_vec.ensures.answers.found

pub returns-clause-answered : goal.returns-clause-answered
returns-clause-answered g c = λ fit stored nests.
    let w = c.in_ok-bytes.ensures in
    c.from_vec.ensures.answers.accepted c.args.value.now
    (spelled_again g.T.Serialize.document g.T.Readable.reads g.T.RoundTrip.law.fits g.T.RoundTrip.law.determined g.met.T.RoundTrip.back c.args.value.now c.in_ok-bytes.bytes.items w.storable w.in_range w.written fit nests) tt

-- ---- why it is refused

pub returns-in_err-bytes-clause-answers : goal.returns-in_err-bytes-clause-answers
returns-in_err-bytes-clause-answers g c =
    let t = g.T.Readable in
    let d = g.T.Serialize.document c.args.value.now in
    unwritten t.passes_over t.total t.reports_faults t.wrong_forms (t.reads from_reader_context) (IsStorableDocument d) (document_bytes d false false) _ _ c.in_err-bytes.ensures.refused c.from_residual.ensures.1

pub returns-clause-answers : goal.returns-clause-answers
returns-clause-answers g c =
    let t = g.T.Readable in
    let d = g.T.Serialize.document c.args.value.now in
    let w = c.in_ok-bytes.ensures in
    read_again t.passes_over t.total t.reports_faults t.wrong_forms (t.reads from_reader_context) (IsStorableDocument d) (document_bytes d false false) c.from_vec.result _ c.in_ok-bytes.bytes.items w.written w.storable c.from_vec.ensures.answers c.from_vec.ensures.form
