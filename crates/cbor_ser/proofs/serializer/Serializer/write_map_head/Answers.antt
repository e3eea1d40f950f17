use Rattle.std.proofs.Common.{arith, refl, Some, None}
use Rattle.cbor_model.specs.Parts.{part_bytes, map_head}
use Rattle.cbor_model.specs.Document.{document_bytes, raw_of}
use Rattle.cbor_model.specs.Spelling.{spell}
use Rattle.cbor_ser.proofs.serializer.Serializer.write_map_head.Goals as goal

pub returns-in-Some : goal.returns-in-Some
unfolding part_bytes document_bytes raw_of spell
returns-in-Some g c = rw c.in-Some.is (c.write_head.ensures (map_head (Some c.in-Some.n)) (record { same = refl; storable = tt; in_range = omega arith }))

pub returns-in-None : goal.returns-in-None
unfolding part_bytes document_bytes raw_of spell
returns-in-None g c = rw c.in-None.is (c.write_piece.ensures (map_head None) (record { same = refl; storable = tt; in_range = tt }))
