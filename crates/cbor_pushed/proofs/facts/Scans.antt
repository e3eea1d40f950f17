-- Published: a scan of bytes to which others are added.

-- it stands where it stood
pub use Rattle.cbor_pushed.proofs.Pushed.{follows_more}
-- no item has no byte, and one that a byte makes whole ends there
pub use Rattle.cbor_pushed.proofs.Pushed.{none_of_none, ends_last}
-- an end has the category of ends
pub use Rattle.cbor_pushed.proofs.ForGood.{end_category}
-- with all formats a key may begin with any byte
pub use Rattle.cbor_pushed.proofs.GoesOn.{all_may_begin}
