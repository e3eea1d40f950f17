-- Published: what is read of an item, by the kind that its head announces.

-- an item is of the kind of its head
pub use Rattle.cbor_decode_as.proofs.heads.OfKind.{kinds}
-- what is read after an item's tags and its head
pub use Rattle.cbor_decode.proofs.facts.Heads.{item_opened}
