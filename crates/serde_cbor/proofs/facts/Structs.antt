-- What proves an implementation that reads a struct of named fields.
-- the same where each field is read by `once` and `required`
pub use Rattle.cbor_de.proofs.facts.Structs.{FieldsSoFar, FieldDue, FieldsEnded}
pub use Rattle.cbor_de.proofs.facts.Structs.{fields_begin, no_fields, field_due, fields_ended, none_named, field_taken, field_refused, other_taken, other_refused, known_other, unknown_other, field_required, field_absent, fields_read, end_refused}
-- A field that a struct doesn't have changes nothing of what it is read as.
pub use Rattle.cbor_de.proofs.facts.Structs.{new_field_passed}
