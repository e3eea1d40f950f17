-- Published: the head of an item within its tags, whatever follows it.

-- the first head is no tag's, is a tag's, or none
pub use Rattle.cbor_decode_as.proofs.heads.Openings.{opened_here, opened_in_tag, opened_stops}
