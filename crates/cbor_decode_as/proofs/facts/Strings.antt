-- Published: what is made of strings that were lent.

-- an item is a string of the same bytes each time
pub use Rattle.cbor_decode_as.proofs.texts.StringContents.{same_bytes}
pub use Rattle.cbor_decode_as.proofs.texts.ByteStrings.{one_byte_string}
-- what is read as another value, or not
pub use Rattle.cbor_decode_as.proofs.texts.Lending.{made_read, made_none, made_refuses, none_of}
-- where memory ran out for a string, and for none that is lent for the input's life
pub use Rattle.cbor_decode_as.proofs.texts.MemoryAsked.{made_memory, lent_unasked}
-- the error that is made of what wasn't lent is one of the item at the front
pub use Rattle.cbor_decode_as.proofs.texts.PassedLent.{made_whole}
