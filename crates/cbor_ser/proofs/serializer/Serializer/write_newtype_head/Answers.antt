use Rattle.std.proofs.Common.{arith}
use Rattle.cbor_ser.proofs.WriteSteps.{same_part}
use Rattle.cbor_ser.proofs.WrittenHeads.{newtype_legacy, newtype_named}
use Rattle.cbor_ser.proofs.serializer.Serializer.write_newtype_head.Goals as goal

pub returns-then-self : goal.returns-then-self
returns-then-self g c = same_part (newtype_legacy _ _ _ c.if-self.true) c.write_legacy_head.ensures

pub returns-else-self : goal.returns-else-self
returns-else-self g c = same_part (newtype_named _ c.args.index _ c.if-self.false (omega arith)) c.write_map_key.ensures
