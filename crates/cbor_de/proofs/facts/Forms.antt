-- Published: what is reported of a wrong form, of parts and of the whole.

-- nothing, or a form that is reported at the front
pub use Rattle.cbor_de.proofs.refusals.Forms.{plain}
-- what an enum reports up to its identifier, and in a variant of no part
pub use Rattle.cbor_de.proofs.refusals.Forms.{enum_reported, unit_err}
-- what the content of a variant reports, and so the whole enum
pub use Rattle.cbor_de.proofs.refusals.Forms.{began_err, content_later, content_left, content_plain, content_right}
pub use Rattle.cbor_de.proofs.refusals.Forms.{part_content}
-- what the next key of a map reports, and so the map
pub use Rattle.cbor_de.proofs.refusals.Forms.{key_in_map}
-- of one of two parts
pub use Rattle.cbor_de.proofs.refusals.Forms.{of_left, of_right, right_err}
-- behind what was taken
pub use Rattle.cbor_de.proofs.refusals.Forms.{later_in, later_err, took_then}
-- the code alone
pub use Rattle.cbor_de.proofs.refusals.Forms.{only_err}
