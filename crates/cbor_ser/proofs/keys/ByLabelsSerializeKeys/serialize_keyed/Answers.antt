use Rattle.std.proofs.Common.{◌∙◌, ℤ, pos, ap, rules, slice_index_or, FitsSigned}
use Rattle.std.specs.Int.{w64}
use Rattle.std.proofs.lemmas.Int.{to_z-of_z}
use Rattle.std.proofs.lemmas.Option.{IfSome_then}
use Rattle.cbor_model.specs.Document.{integer}
use Rattle.cbor_model.specs.Parts.{in_turn, item}
use Rattle.cbor_ser.proofs.Keyed.{labelled_at}
use Rattle.cbor_ser.proofs.WriteSteps.{same_step}
use Rattle.cbor_ser.proofs.keys.ByLabelsSerializeKeys.serialize_keyed.Goals as goal

pub returns : goal.returns
returns g c =
    let i = c.args.number in
    let labels = c.args.self.labels.now in
    let fits : FitsSigned w64 (slice_index_or labels i (pos 0)) = search rules in
    IfSome_then (g.A.SerializeField.document c.args.field.now) c.labelled_step.ensures
    (λ d held. same_step (ap (λ (z : ℤ). in_turn (item (integer z)) (item d)) (to_z-of_z w64 _ fits ∙ labelled_at labels i _ c.requires)) held)
