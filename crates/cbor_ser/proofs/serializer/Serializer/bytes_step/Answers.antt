use Rattle.std.proofs.Common.{rules, arith}
use Rattle.cbor_model.specs.Parts.{part_bytes, item}
use Rattle.cbor_model.specs.Document as document
use Rattle.cbor_model.specs.Document.{document_bytes, raw_of}
use Rattle.cbor_model.specs.Spelling.{spell}
use Rattle.cbor_ser.proofs.serializer.Serializer.bytes_step.Goals as goal

pub returns : goal.returns
unfolding part_bytes document_bytes raw_of spell
returns g c = c.string_step.ensures (item (document.bytes c.args.v.now)) (record { same = search rules; storable = tt; in_range = (omega arith, λ i. (c.type_inv.v i).fits) })
