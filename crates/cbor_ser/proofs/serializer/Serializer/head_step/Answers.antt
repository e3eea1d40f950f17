use Rattle.std.proofs.Common.{refl}
use Rattle.cbor_ser.proofs.WriteSteps.{stepped}
use Rattle.cbor_ser.proofs.serializer.Serializer.head_step.Goals as goal

pub returns : goal.returns
returns g c part spells =
    let done = c.put_head in
    stepped part done.result spells refl done.ensures.same_references done.ensures.same_capacity done.ensures.written done.ensures.refused done.ensures.fits
