use Rattle.cbor_model.specs.Document.{document_bytes, encoded, raw_of}
use Rattle.cbor_model.specs.Parts.{item, part_bytes}
use Rattle.cbor_ser.proofs.encoded.write_encoded.Goals as goal

pub returns : goal.returns
unfolding part_bytes document_bytes raw_of
returns g c r e =
    c.write_piece.ensures (item (encoded r)) (record { same = e.spelled; storable = tt; in_range = (e.fits, e.texts) })
