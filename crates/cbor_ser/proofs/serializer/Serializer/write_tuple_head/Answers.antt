use Rattle.std.proofs.Common.{arith}
use Rattle.cbor_ser.proofs.WriteSteps.{and_then, stops, same_part}
use Rattle.cbor_ser.proofs.WrittenHeads.{tuple_legacy, tuple_named}
use Rattle.cbor_ser.proofs.serializer.Serializer.write_tuple_head.Goals as goal

pub returns-then-self : goal.returns-then-self
returns-then-self g c = same_part (tuple_legacy _ _ _ _ c.if-self.true) c.write_legacy_head.ensures

pub returns-in_err-write_map_key : goal.returns-in_err-write_map_key
returns-in_err-write_map_key g c = same_part (tuple_named _ c.args.index _ c.args.len c.if-self.false (omega arith) (omega arith)) (stops c.from_residual.ensures.1 c.in_err-write_map_key.ensures.err)

pub returns : goal.returns
returns g c = same_part (tuple_named _ c.args.index _ c.args.len c.if-self.false (omega arith) (omega arith)) (and_then c.in_ok-write_map_key.ensures.ok c.write_array_head.ensures)
