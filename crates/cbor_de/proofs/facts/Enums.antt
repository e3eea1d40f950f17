-- Published: what proves an implementation that reads an enum. Each call on the enum has a lemma, for
-- each of its answers.

-- what a call took that reads an enum
pub use Rattle.cbor_de.proofs.parts.Enums.{TakesEnum}
-- the variant, and what is known of it
pub use Rattle.cbor_de.proofs.parts.Enums.{variant_is, variant_unread}
-- a content of no part, of one, or of any other meaning
pub use Rattle.cbor_de.proofs.parts.Enums.{unit_read, unit_unread, newtype_read, newtype_unread, content_read, content_unread}
-- a content of several parts, and what is known of them
pub use Rattle.cbor_de.proofs.parts.Enums.{tuple_begins, tuple_unread}
-- the items that remain of its array, and what they mean
pub use Rattle.cbor_de.proofs.parts.Enums.{has_items, items_read, items_made}
-- a part
pub use Rattle.cbor_de.proofs.parts.Enums.{part_read, part_unread}
-- the end
pub use Rattle.cbor_de.proofs.parts.Enums.{parts_left, parts_read}
-- the fault that the refusal of a content reports is the enum's
pub use Rattle.cbor_decode_as.proofs.facts.Enums.{content_fault, parts_content}
-- that of the one part, where the refusals of its type report the faults of the bytes
pub use Rattle.cbor_de.proofs.parts.EnumFaults.{part_any}
