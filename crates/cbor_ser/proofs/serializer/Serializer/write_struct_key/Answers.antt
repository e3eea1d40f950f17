use Rattle.std.proofs.Common.{arith, rules}
use Rattle.cbor_ser.proofs.WriteSteps.{same_part}
use Rattle.cbor_ser.proofs.WrittenHeads.{struct_legacy, struct_identified}
use Rattle.cbor_ser.proofs.serializer.Serializer.write_struct_key.Goals as goal

pub returns-then-self : goal.returns-then-self
returns-then-self g c = same_part (struct_legacy _ _ _ c.if-self.true) c.write_legacy_head.ensures

pub returns-else-self : goal.returns-else-self
returns-else-self g c = same_part (struct_identified _ c.args.index c.args.name.now c.if-self.false (omega arith) ((omega arith, search rules), c.utf8.name)) c.write_map_key.ensures
