-- Published: heads.

-- an item is read after its head
pub use Rattle.cbor_decode.proofs.Mapped.{item_opened}
-- and a value whatever the width of its head
pub use Rattle.cbor_decode.proofs.Heads.{value_behind}
