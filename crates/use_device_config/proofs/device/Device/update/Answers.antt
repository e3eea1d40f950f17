use Rattle.std.proofs.Common.{◌∙◌, length, ap, arith}
use Rattle.std.proofs.lemmas.Result.{err_from_is_err_and}
use Rattle.serde_cbor.specs.Sources.{input_of_slice_fixed}
use Rattle.serde_cbor.proofs.facts.Structs.{new_field_passed}
use Rattle.serde_cbor.proofs.facts.Said.{end_refused, front_refused, whole_read}
use Rattle.use_device_config.specs.Configs.{most_levels}
use Rattle.use_device_config.specs.contracts.config.ConfigReadable.TheImpl as config
use Rattle.use_device_config.proofs.device.Device.update.Goals as goal

pub returns-in_err-config-clause-accepted : goal.returns-in_err-config-clause-accepted
returns-in_err-config-clause-accepted c x says fits =
    let made = c.nesting_limit-de.ensures in
    let from = c.from_slice_with_scratch-de.ensures in
    let p = err_from_is_err_and c.from_residual.result c.from_residual.ensures.1 in
    rw (p.1, p.2) (front_refused config.ghosts.reads c.item_taken.ensures c.args.bytes.now (length c.args.scratch.now) most_levels (λ i. omega (arith, c.type_inv.bytes i)) (omega arith) _
    (ap input_of_slice_fixed made.source ∙ from.input) made.levels (made.formats ∙ from.formats) c.in_err-config.field-0.0 x says fits c.in_err-config.ensures.read)

pub returns-in_err-end-clause-accepted : goal.returns-in_err-end-clause-accepted
returns-in_err-end-clause-accepted c x says fits =
    let made = c.nesting_limit-de.ensures in
    let from = c.from_slice_with_scratch-de.ensures in
    let p = err_from_is_err_and c.from_residual-in_err-end.result c.from_residual-in_err-end.ensures.1 in
    rw (p.1, p.2) (end_refused config.ghosts.reads c.item_taken.ensures c.args.bytes.now (length c.args.scratch.now) most_levels (λ i. omega (arith, c.type_inv.bytes i)) (omega arith) _
    (ap input_of_slice_fixed made.source ∙ from.input) made.levels (made.formats ∙ from.formats) c.in_err-end.field-0.0 x says _ _ c.in_ok-config.ensures.read c.in_err-end.ensures.takes)

pub returns-clause-says : goal.returns-clause-says
returns-clause-says c =
    let made = c.nesting_limit-de.ensures in
    let from = c.from_slice_with_scratch-de.ensures in
    whole_read config.ghosts.reads c.item_taken.ensures c.args.bytes.now (length c.args.scratch.now) most_levels (λ i. omega (arith, c.type_inv.bytes i)) (omega arith) _
    (ap input_of_slice_fixed made.source ∙ from.input) made.levels (made.formats ∙ from.formats) _ c.in_ok-config.ensures.read c.in_ok-end.ensures.read

pub returns-clause-new_fields : goal.returns-clause-new_fields
returns-clause-new_fields c l m ps qs config more h = new_field_passed _ _ l m _ more h

pub returns-in_err-config-clause-new_fields : goal.returns-in_err-config-clause-new_fields
returns-in_err-config-clause-new_fields c l m ps qs config more h = new_field_passed _ _ l m _ more h

pub returns-in_err-end-clause-new_fields : goal.returns-in_err-end-clause-new_fields
returns-in_err-end-clause-new_fields c l m ps qs config more h = new_field_passed _ _ l m _ more h
