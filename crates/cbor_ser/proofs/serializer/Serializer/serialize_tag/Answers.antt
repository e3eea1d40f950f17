use Rattle.std.proofs.Common.{refl, arith}
use Rattle.cbor_model.specs.Parts.{part_bytes, tag_head}
use Rattle.cbor_model.specs.Document.{document_bytes, raw_of}
use Rattle.cbor_model.specs.Spelling.{spell}
use Rattle.cbor_ser.proofs.serializer.Serializer.serialize_tag.Goals as goal

pub returns : goal.returns
unfolding part_bytes document_bytes raw_of spell
returns g c = c.write_head.ensures (tag_head c.args.tag) (record { same = refl; storable = tt; in_range = omega arith })
