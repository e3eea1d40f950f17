-- Published: the content of a variant.

-- the items of a content
pub use Rattle.cbor_decode_as.proofs.enums.VariantParts.{end_left, item_lacks, none_comes, one_answer}
pub use Rattle.cbor_decode_as.proofs.enums.VariantParts.{only_taken, parts_inside, untold}
-- the identifier names one variant
pub use Rattle.cbor_decode_as.proofs.enums.Variants.{identifier_one, label_one, name_one}
-- the fault that its content reports is the enum's
pub use Rattle.cbor_decode_as.proofs.enums.ContentFaults.{content_fault, part_content, parts_content}
-- that of the one part, and the end behind it
pub use Rattle.cbor_decode_as.proofs.enums.ContentFaults.{end_there}
-- where memory was asked for it
pub use Rattle.cbor_decode_as.proofs.enums.ContentFaults.{first_memory, unasked_content}
