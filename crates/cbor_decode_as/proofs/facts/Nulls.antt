-- Published: what is read as an option.

-- null, an item that is there, or an item that isn't read
pub use Rattle.cbor_decode_as.proofs.numbers.Nulls.{option_none, option_some, option_refused}
-- where an option takes memory
pub use Rattle.cbor_decode_as.proofs.numbers.Nulls.{option_memory}
-- a refusal of what is there, or of the source
pub use Rattle.cbor_decode_as.proofs.numbers.Nulls.{option_whole, unseen_whole}
