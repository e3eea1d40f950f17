-- What calls took, by the definitions: items, heads, tags, parts and enums.
pub mod Taken
pub mod HeadsTaken
pub mod TagTaken
pub mod PartTaken
pub mod VariantTaken
pub mod ContentTaken
pub mod ItemFronts
pub mod Items
pub mod Gathered
