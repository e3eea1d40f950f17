use Rattle.std.proofs.Common.{List, ℕ, ap}
use Rattle.std.proofs.lemmas.Option.{IfSome_then}
use Rattle.cbor_model.specs.Parts.{field_part}
use Rattle.cbor_ser.proofs.FieldsByName.{named_at}
use Rattle.cbor_ser.proofs.WriteSteps.{same_step}
use Rattle.cbor_ser.proofs.keys.ByNamesSerializeKeys.serialize_keyed.Goals as goal

pub returns : goal.returns
returns g c =
    let i = c.args.number in
    IfSome_then (g.A.SerializeField.document c.args.field.now) c.field_step.ensures
    (λ d held. same_step (ap (λ (n : List ℕ). field_part i n d) (named_at c.args.self.0.now i _ c.requires)) held)
