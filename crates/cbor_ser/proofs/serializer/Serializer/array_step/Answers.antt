use Rattle.std.proofs.Common.{arith, refl, Some}
use Rattle.cbor_model.specs.Parts.{part_bytes, array_head}
use Rattle.cbor_model.specs.Document.{document_bytes, raw_of}
use Rattle.cbor_model.specs.Spelling.{spell}
use Rattle.cbor_ser.proofs.serializer.Serializer.array_step.Goals as goal

pub returns : goal.returns
unfolding part_bytes document_bytes raw_of spell
returns g c = c.head_step.ensures (array_head (Some c.args.len)) (record { same = refl; storable = tt; in_range = omega arith })
