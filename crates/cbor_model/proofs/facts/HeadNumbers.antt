-- Published: the number of a head, as its bytes.

-- a number that was read after a first byte is spelled so, and one that is spelled so is read
pub use Rattle.cbor_model.proofs.reader.ReaderSteps.{number_behind_found, number_behind_again}
-- the lower five bits of the first byte, and the major type
pub use Rattle.cbor_model.proofs.reader.ReaderSteps.{info-below, width_of-info, high_of, low_of}
-- what follows a byte
pub use Rattle.cbor_model.proofs.reader.ReaderSteps.{AreBytes-rest}
