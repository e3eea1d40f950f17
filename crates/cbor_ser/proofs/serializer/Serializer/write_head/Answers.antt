use Rattle.std.proofs.Common.{refl}
use Rattle.cbor_ser.proofs.WriteSteps.{serialized}
use Rattle.cbor_ser.proofs.serializer.Serializer.write_head.Goals as goal

pub returns : goal.returns
returns g c part spells =
    let done = c.write_head in
    serialized part done.result spells refl done.ensures.same_references done.ensures.same_capacity done.ensures.written done.ensures.refused done.ensures.fits
