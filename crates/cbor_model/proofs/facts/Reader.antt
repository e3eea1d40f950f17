-- Published: the steps of the reference reader.

-- only major type 7 is simple
pub use Rattle.cbor_model.proofs.reader.Majors.{simple_number}
-- equal results of reading have equal values
pub use Rattle.cbor_model.proofs.reader.ReaderSteps.{ok_is}
-- an item takes at least a byte, and no step gives bytes back
pub use Rattle.cbor_model.proofs.reader.BytesTaken.{taken, chunk_taken, next_taken}
-- more fuel than bytes changes nothing
pub use Rattle.cbor_model.proofs.reader.Fuel.{chunks_by-fuel, parts_by-fuel, pair_taken}
-- bytes that are valid to their end are UTF-8
pub use Rattle.cbor_model.proofs.reader.Texts.{IsUtf8-from_valid_len}
-- an item at the front of the bytes, whose keys are of the formats that are read and whose chunks fit
-- the scratch, is read as it is spelled; and what is read so does fit it
pub use Rattle.cbor_model.proofs.reader.RawReader.{item_found, item_fits, item_again}
-- the value of a step that did not fail
pub use Rattle.cbor_model.proofs.reader.ReaderSteps.{bind_ok}
-- a key begins with a byte that may begin one, and is read as an item
pub use Rattle.cbor_model.proofs.reader.ReaderSteps.{key_read, key_is}
-- with all formats every key is allowed
pub use Rattle.cbor_model.proofs.reader.FirstBytes.{all_allowed}
-- an acceptable item at the front of the bytes is read as its value
pub use Rattle.cbor_model.proofs.reader.Whole.{value_again}
-- bytes that encode one item are its spelling, and its spelling encodes it
pub use Rattle.cbor_model.proofs.reader.Encoding.{encoding_of, is_encoding}
