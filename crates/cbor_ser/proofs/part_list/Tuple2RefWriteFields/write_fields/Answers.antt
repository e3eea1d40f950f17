use Rattle.std.proofs.Common.{◌≡◌, ℕ, ap, true, false, rules}
use Rattle.std.specs.Option.{is_some}
use Rattle.cbor_model.specs.Document.{Fields}
use Rattle.cbor_ser.specs.Labels.{keyed_fields}
use Rattle.cbor_ser.specs.PartLists.{name_in}
use Rattle.cbor_ser.proofs.Keyed.{field_then}
use Rattle.cbor_ser.proofs.WriteSteps.{step_then, step_stops, same_step, same_part_step}
use Rattle.cbor_ser.proofs.FieldsByName.{written_then, left_out, has_document, no_document}
use Rattle.cbor_ser.proofs.part_list.Tuple2RefWriteFields.write_fields.Goals as goal

pub returns-then-not-is_written : goal.returns-then-not-is_written
returns-then-not-is_written g c =
    let ns = g.K.SerializeKeys.names c.args.keys in
    let labels = g.K.SerializeKeys.labels c.args.keys in
    let d = g.A.SerializeField.document c.args.self.now.0.now in
    let none : is_some d ≡ false = search (rules, c.is_written.ensures, c.if-not-is_written.true) in
    same_step (ap (keyed_fields labels) (left_out c.args.number d ns (λ i. g.F.WriteFields.fields_from i ns c.args.self.now.1) (no_document d none))) c.write_fields.ensures

pub returns-in_err-serialize_keyed : goal.returns-in_err-serialize_keyed
returns-in_err-serialize_keyed g c =
    let i = c.args.number in
    let ns = g.K.SerializeKeys.names c.args.keys in
    let labels = g.K.SerializeKeys.labels c.args.keys in
    let d = g.A.SerializeField.document c.args.self.now.0.now in
    let others : ℕ → Fields = λ i. g.F.WriteFields.fields_from i ns c.args.self.now.1 in
    let some : is_some d ≡ true = search (rules, c.is_written.ensures, c.if-not-is_written.false) in
    let w = has_document d some in
    let wrote = rw w.1 at c.in_err-serialize_keyed.ensures in
    same_step (ap (keyed_fields labels) (written_then i d ns others w.0 w.1)) (same_part_step (field_then _ labels i (name_in ns i) w.0 _) (step_stops _ c.from_residual.ensures.0 wrote.err))

pub returns : goal.returns
returns g c =
    let i = c.args.number in
    let ns = g.K.SerializeKeys.names c.args.keys in
    let labels = g.K.SerializeKeys.labels c.args.keys in
    let d = g.A.SerializeField.document c.args.self.now.0.now in
    let others : ℕ → Fields = λ i. g.F.WriteFields.fields_from i ns c.args.self.now.1 in
    let some : is_some d ≡ true = search (rules, c.is_written.ensures, c.if-not-is_written.false) in
    let w = has_document d some in
    let wrote = rw w.1 at c.in_ok-serialize_keyed.ensures in
    same_step (ap (keyed_fields labels) (written_then i d ns others w.0 w.1)) (same_part_step (field_then _ labels i (name_in ns i) w.0 _) (step_then wrote.ok c.write_fields-2.ensures))
