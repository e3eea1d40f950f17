use Rattle.std.proofs.Common.{rules, arith}
use Rattle.serde_cbor.proofs.facts.Structs.{FieldDue, FieldsEnded, no_fields, fields_begin, none_named, field_due, field_taken, field_refused, known_other, unknown_other, other_taken, other_refused, fields_ended, field_absent, field_required, end_refused, fields_read}
use Rattle.own_types.proofs.by_hand.PointDeserialize.deserialize.Given.{Over}
use Rattle.own_types.proofs.by_hand.PointDeserialize.deserialize.Invariants.{names, fields}
use Rattle.own_types.proofs.by_hand.PointDeserialize.deserialize.Goals as goal
use Rattle.own_types.proofs.by_hand.PointDeserialize.deserialize.Goals.{In-Some, In_default, in_default-field-via-in-Known+in_default, in_default-field-via-in_default}

-- ---- structure

pub returns-in_err-access-clause-read : goal.returns-in_err-access-clause-read
returns-in_err-access-clause-read g c =
    no_fields names fields g.R.Source.source c.args.de.now _ _ c.in_err-access.ensures.refused _ _ c.from_residual.ensures.1 (search rules)

pub fields-init : goal.fields-init
fields-init g c =
    let access = c.in_ok-access.ensures in
    fields_begin names fields g.R.Source.source access.head access.settings.formats access.names access.due access.taken

-- ---- next_field

pub returns-in_err-field-clause-read : goal.returns-in_err-field-clause-read
returns-in_err-field-clause-read g c =
    none_named c.fields.invariant _ _ c.in_err-field.ensures.read _ _ c.from_residual-in_err-field.ensures.1 (search rules)

due : (g : Over) (c : In-Some g) → FieldDue names fields g.R.Source.source c.args.de.now c.in_ok-access.access c.next_field.new.self (c.fields.x, (c.fields.y, tt)) c.in-Some.field
due g c =
    let next = c.in_ok-field.ensures in
    field_due c.fields.invariant c.next_field.new.self next.read c.in-Some.is next.same_reference next.outer next.names next.settings.formats next.settings.levels

ended : (g : Over) (c : In_default g) → FieldsEnded names fields g.R.Source.source c.args.de.now c.in_ok-access.access c.next_field.new.self (c.fields.x, (c.fields.y, tt))
ended g c =
    let next = c.in_ok-field.ensures in
    fields_ended c.fields.invariant c.next_field.new.self next.read c.in_default.is next.remains

-- ---- once

pub fields-preserved-in-0-1 : goal.fields-preserved-in-0-1
fields-preserved-in-0-1 g c =
    let done = c.in_ok-once-in-Known-eq0.ensures in
    field_taken (due g (goal.at.fields-preserved-in-0-1 g c).In-Some) done.same_reference done.outer done.names done.due done.settings.formats done.settings.levels done.remaining 0 (cc) done.only_once _ done.holds done.read

pub returns-in_err-once-in-Known-eq0-clause-read : goal.returns-in_err-once-in-Known-eq0-clause-read
returns-in_err-once-in-Known-eq0-clause-read g c =
    field_refused (due g (goal.at.returns-in_err-once-in-Known-eq0-clause-read g c).In-Some) 0 tt (cc) _ _ c.in_err-once-in-Known-eq0.ensures.refused _ _ c.from_residual-in_err-once-in-Known-eq0.ensures.1 (search rules)

pub fields-preserved-in-1-1 : goal.fields-preserved-in-1-1
fields-preserved-in-1-1 g c =
    let done = c.in_ok-once-in-Known-eq1.ensures in
    field_taken (due g (goal.at.fields-preserved-in-1-1 g c).In-Some) done.same_reference done.outer done.names done.due done.settings.formats done.settings.levels done.remaining 1 (cc) done.only_once _ done.holds done.read

pub returns-in_err-once-in-Known-eq1-clause-read : goal.returns-in_err-once-in-Known-eq1-clause-read
returns-in_err-once-in-Known-eq1-clause-read g c =
    field_refused (due g (goal.at.returns-in_err-once-in-Known-eq1-clause-read g c).In-Some) 1 tt (cc) _ _ c.in_err-once-in-Known-eq1.ensures.refused _ _ c.from_residual-in_err-once-in-Known-eq1.ensures.1 (search rules)

-- ---- skip

pub fields-preserved : goal.fields-preserved
fields-preserved g c =
    let done = c.in_ok-skip-in_default-field.ensures in
    other_taken (due g (goal.at.fields-preserved g c).In-Some) done.same_reference done.outer done.names done.due done.settings.formats done.settings.levels done.remaining
    (elim c.in_default-field.branch [
      | in_default-field-via-in-Known+in_default w ↦ known_other fields w.in_default-field.is (omega arith)
      | in_default-field-via-in_default w ↦ unknown_other fields w.in_default-field.is
    ]) done.read

pub returns-in_err-skip-in_default-field-clause-read : goal.returns-in_err-skip-in_default-field-clause-read
returns-in_err-skip-in_default-field-clause-read g c =
    other_refused (due g (goal.at.returns-in_err-skip-in_default-field-clause-read g c).In-Some) _ _ c.in_err-skip-in_default-field.ensures.read _ _ c.from_residual-in_err-skip-in_default-field.ensures.1 (search rules)

-- ---- required

pub returns-in_err-x-clause-read : goal.returns-in_err-x-clause-read
returns-in_err-x-clause-read g c =
    field_absent (ended g (goal.at.returns-in_err-x-clause-read g c).In_default) 0 c.in_err-x.ensures.absent _ _ _ _ c.from_residual-in_err-x.ensures.1 (search rules)

pub returns-in_err-y-clause-read : goal.returns-in_err-y-clause-read
returns-in_err-y-clause-read g c =
    field_absent (ended g (goal.at.returns-in_err-y-clause-read g c).In_default) 1 c.in_err-y.ensures.absent _ _ _ _ c.from_residual-in_err-y.ensures.1 (search rules)

-- ---- end

pub returns-in_err-end-clause-read : goal.returns-in_err-end-clause-read
returns-in_err-end-clause-read g c =
    let last = field_required (ended g (goal.at.returns-in_err-end-clause-read g c).In_default) {after = c.required-2.new.self} (cc) (cc) in
    end_refused last _ _ c.in_err-end.ensures.read _ _ c.from_residual-in_err-end.ensures.1 (search rules)

pub returns-clause-read : goal.returns-clause-read
returns-clause-read g c =
    let last = field_required (ended g (goal.at.returns-clause-read g c).In_default) {after = c.required-2.new.self} (cc) (cc) in
    fields_read last _ (search rules) c.in_ok-end.ensures.read (search rules)
