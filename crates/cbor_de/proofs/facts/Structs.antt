-- Published: what proves an implementation that reads a struct of named fields. A loop over the fields
-- keeps `StructSoFar`, and each call that is made in it has a lemma.

-- what is known of the fields
pub use Rattle.cbor_de.proofs.structs.Slots.{Slots, none_yet, AreHeld, Has, LacksAt, ValueAt, reads_at, put}
pub use Rattle.cbor_de.proofs.structs.Slots.{gathered_twice, gathered_value}
-- that a key means one field
pub use Rattle.cbor_de.proofs.structs.Slots.{field_one, keyed_one}
-- what is known of the struct, and that it is read or isn't
pub use Rattle.cbor_de.proofs.structs.Structs.{StructSoFar, NoStruct}
-- the map's head
pub use Rattle.cbor_de.proofs.structs.Structs.{struct_begins, no_struct}
-- a field that is named and read, or a key of none that is passed over
pub use Rattle.cbor_de.proofs.structs.Structs.{field_read, other_passed}
-- the same of a field that is read into its slot by `once`
pub use Rattle.cbor_de.proofs.structs.Structs.{FieldNamed, field_named}
-- what is refused in between
pub use Rattle.cbor_de.proofs.structs.Structs.{no_field_named, field_twice, field_unread, other_unread}
-- the end
pub use Rattle.cbor_de.proofs.structs.Structs.{field_missing, end_unread, struct_held}
-- ---- the short way

-- Where fields are read by `once` and `required`, and alike whatever formats are read, a loop keeps
-- `FieldsSoFar`, and each call has a lemma of its Ok and one of its Err.

-- what is known between two fields, at a field's value, and at the end
pub use Rattle.cbor_de.proofs.structs.StructLoops.{FieldsSoFar, FieldDue, FieldsEnded}
-- `structure`
pub use Rattle.cbor_de.proofs.structs.StructLoops.{fields_begin, no_fields}
-- `next_field`: a field is named, or none is left
pub use Rattle.cbor_de.proofs.structs.StructLoops.{field_due, fields_ended, none_named}
-- `once`
pub use Rattle.cbor_de.proofs.structs.StructLoops.{field_taken, field_refused}
-- `skip`, and that what is passed over is no field
pub use Rattle.cbor_de.proofs.structs.StructLoops.{other_taken, other_refused, known_other, unknown_other}
-- `required`
pub use Rattle.cbor_de.proofs.structs.StructLoops.{field_required, field_absent}
-- `end`
pub use Rattle.cbor_de.proofs.structs.StructLoops.{fields_read, end_refused}
-- a field that the struct doesn't have changes nothing of what it is read as
pub use Rattle.cbor_de.proofs.structs.NewFieldPassed.{new_field_passed}
-- ---- memory

-- what a call that ran out of it says of the struct: of its head, a key, a value, and a missing field
pub use Rattle.cbor_de.proofs.structs.StructMemory.{head_asked, key_asked, missing_asked, value_asked}
