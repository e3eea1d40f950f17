-- Published: where an error stands that reports an array too short, or a form that isn't read.

-- of the identifier of a field, and of the items of a content
pub use Rattle.cbor_decode_as.proofs.refused.Cases.{too_short_first, too_short_later, unnamed_stands}
-- which code reports it
pub use Rattle.cbor_decode_as.proofs.refused.Codes.{kept_alone, made_alone}
-- of a next key that may not begin as it does, where one came that may
pub use Rattle.cbor_decode_as.proofs.maps.BadKeys.{bad_key_later}
