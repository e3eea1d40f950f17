use Rattle.std.proofs.Common.{refl, Some, None}
use Rattle.cbor_ser.proofs.WriteSteps.{nothing_is}
use Rattle.cbor_model.specs.Parts.{part_bytes, ending}
use Rattle.cbor_model.specs.Document.{document_bytes, raw_of}
use Rattle.cbor_model.specs.Spelling.{spell}
use Rattle.cbor_ser.proofs.serializer.Serializer.write_end.Goals as goal

pub returns-in-Some : goal.returns-in-Some
unfolding part_bytes document_bytes raw_of spell
returns-in-Some g c = rw c.in-Some.is (nothing_is (ending (Some _)) refl tt tt)

pub returns-in-None : goal.returns-in-None
unfolding part_bytes document_bytes raw_of spell
returns-in-None g c = rw c.in-None.is (c.write_piece.ensures (ending None) (record { same = refl; storable = tt; in_range = tt }))
