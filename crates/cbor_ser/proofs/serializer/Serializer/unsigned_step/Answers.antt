use Rattle.std.proofs.Common.{refl, pos, arith}
use Rattle.cbor_model.specs.Parts.{part_bytes, item}
use Rattle.cbor_model.specs.Document as document
use Rattle.cbor_model.specs.Document.{document_bytes, raw_of}
use Rattle.cbor_model.specs.Spelling.{spell}
use Rattle.cbor_ser.proofs.serializer.Serializer.unsigned_step.Goals as goal

pub returns : goal.returns
unfolding part_bytes document_bytes raw_of spell
returns g c = c.head_step.ensures (item (document.integer (pos c.args.v))) (record { same = refl; storable = omega arith; in_range = tt })
