-- What proves an implementation that reads an enum.
pub use Rattle.cbor_de.proofs.facts.Enums.{variant_is, variant_unread}
pub use Rattle.cbor_de.proofs.facts.Enums.{unit_read, unit_unread, newtype_read, newtype_unread}
pub use Rattle.cbor_de.proofs.facts.Enums.{tuple_begins, tuple_unread, part_read, part_unread, parts_left, parts_read}
