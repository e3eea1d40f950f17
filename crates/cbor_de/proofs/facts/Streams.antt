-- Published: what a stream over a reader has given, for the invariant of a loop over it.

-- nothing yet, another value, all, or the longest list of values
pub use Rattle.cbor_de.proofs.inputs.StreamedValues.{none_streamed, one_streamed, all_streamed, most_streamed}
