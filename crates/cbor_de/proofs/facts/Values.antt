-- Published: what is read as a `Value`.

-- it is the value of the item that the bytes spell, and so storable and ordered
pub use Rattle.cbor_de.proofs.values.Values.{spelled_value, is_canonical}
-- what is made of a value that was read, or that none was
pub use Rattle.cbor_de.proofs.values.OfValues.{value_made, no_value}
-- what a value stands for
pub use Rattle.cbor_value.proofs.facts.Views.{view_text, view_array, view_map}
-- what a call from a slice and one from a reader answer, for the law `sources_agree`
pub use Rattle.cbor_de.proofs.refusals.Alike.{reading, reading_of_reader}
