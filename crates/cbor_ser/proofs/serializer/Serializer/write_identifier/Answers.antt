use Rattle.std.proofs.Common.{arith, rules}
use Rattle.cbor_ser.proofs.WriteSteps.{same_part}
use Rattle.cbor_ser.proofs.WrittenHeads.{key_same}
use Rattle.cbor_ser.proofs.serializer.Serializer.write_identifier.Goals as goal

pub returns : goal.returns
returns g c = same_part (key_same _ c.args.index c.args.name.now (omega arith) ((omega arith, search rules), c.utf8.name)) c.write_key.ensures
