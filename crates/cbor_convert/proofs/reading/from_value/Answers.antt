use Rattle.std.proofs.Common.{refl}
use Rattle.cbor_model.specs.Canonical.{IsStorable, canon}
use Rattle.cbor_value.specs.View.{view}
use Rattle.cbor_de.specs.Whole.{from_reader_context}
use Rattle.cbor_convert.proofs.CanonicalReadings.{not_refused, refused_value, value_acceptable, value_read, spelled_so}
use Rattle.cbor_convert.proofs.ReadWritten.{read_again, unwritten}
use Rattle.cbor_convert.proofs.reading.from_value.Goals as goal

-- ---- not written

pub returns-in_err-bytes-clause-answers : goal.returns-in_err-bytes-clause-answers
returns-in_err-bytes-clause-answers g c =
    let t = g.T.Readable in
    let v = view c.args.value in
    unwritten t.passes_over t.total t.reports_faults t.wrong_forms (t.reads from_reader_context) (IsStorable v) (canon v) _ c.in_err-bytes.field-0.0 (refused_value v c.in_err-bytes.field-0.0 c.in_err-bytes.ensures.refused) c.from_residual.ensures.1

pub returns-in_err-bytes-clause-accepted : goal.returns-in_err-bytes-clause-accepted
returns-in_err-bytes-clause-accepted g c = λ x stored good means.
    not_refused _ (view c.args.value) _ c.in_err-bytes.ensures.refused c.from_residual.ensures.1 stored

-- ---- written, and read

pub returns-clause-answers : goal.returns-clause-answers
returns-clause-answers g c =
    let t = g.T.Readable in
    let v = view c.args.value in
    let spells = c.in_ok-bytes.ensures.canonical v refl in
    read_again t.passes_over t.total t.reports_faults t.wrong_forms (t.reads from_reader_context) (IsStorable v) (canon v) c.from_vec.result _ c.in_ok-bytes.bytes.items spells.written spells.storable c.from_vec.ensures.answers c.from_vec.ensures.form

pub returns-clause-acceptable : goal.returns-clause-acceptable
returns-clause-acceptable g c =
    let v = view c.args.value in
    let w = c.in_ok-bytes.ensures in
    value_acceptable (g.T.Readable.reads from_reader_context) v c.in_ok-bytes.bytes.items (w.canonical v refl).written c.from_vec.result w.storable w.in_range c.from_vec.ensures.answers.found

pub returns-clause-found : goal.returns-clause-found
returns-clause-found g c =
    let v = view c.args.value in
    let w = c.in_ok-bytes.ensures in
    value_read (g.T.Readable.reads from_reader_context) v c.in_ok-bytes.bytes.items (w.canonical v refl).written c.from_vec.result w.storable w.in_range c.from_vec.ensures.answers.found

pub returns-clause-accepted : goal.returns-clause-accepted
returns-clause-accepted g c = λ x stored good means.
    let v = view c.args.value in
    let w = c.in_ok-bytes.ensures in
    c.from_vec.ensures.answers.accepted x (spelled_so (g.T.Readable.reads from_reader_context) v c.in_ok-bytes.bytes.items (w.canonical v refl).written x good means) tt
