use Rattle.std.proofs.Common.{refl}
use Rattle.cbor_model.specs.Parts.{nothing, part_bytes}
use Rattle.cbor_ser.proofs.WriteSteps.{nothing_is}
use Rattle.cbor_ser.proofs.collection.StructSerializer.end.Goals as goal

pub returns : goal.returns
unfolding part_bytes
returns g c = nothing_is nothing refl tt tt
