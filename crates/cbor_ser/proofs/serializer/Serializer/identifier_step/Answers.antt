use Rattle.std.proofs.Common.{arith, rules}
use Rattle.cbor_ser.proofs.WriteSteps.{same_part_step}
use Rattle.cbor_ser.proofs.WrittenHeads.{key_same}
use Rattle.cbor_ser.proofs.serializer.Serializer.identifier_step.Goals as goal

pub returns : goal.returns
returns g c = same_part_step (key_same _ c.args.number c.args.name.now (omega arith) ((omega arith, search rules), c.utf8.name)) c.key_step.ensures
