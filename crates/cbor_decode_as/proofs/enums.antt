-- Enums: how they begin, which variant they are, and its content.
pub mod VariantParts
pub mod Variants
pub mod VariantHeads
pub mod VariantShapes
pub mod VariantPairs
pub mod VariantMaps
pub mod VariantForms
pub mod VariantsAtHand
pub mod VariantFaults
pub mod VariantMemory
pub mod ContentFaults
