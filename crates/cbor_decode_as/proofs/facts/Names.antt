-- Published: what a refusal of a name, or of a label, says of the item at the front.

-- an item of another kind isn't read as one
pub use Rattle.cbor_decode_as.proofs.texts.NamedItems.{Excludes, no_label_read, no_name_read}
-- where memory was asked for it, and the fault that it reports
pub use Rattle.cbor_decode_as.proofs.texts.NamedItems.{names_memory, names_refuse}
-- a refusal that isn't lack of memory
pub use Rattle.cbor_decode_as.proofs.texts.NamedFaults.{no_memory}
-- the fault of the item, if the error reports one
pub use Rattle.cbor_decode_as.proofs.refused.Faults.{name_if_any}
