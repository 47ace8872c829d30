-- Laws that callers use.
pub mod Outcomes
pub mod FaultNumbers
pub mod Lookup
pub mod Declared
pub mod PredicateSets
pub mod Shipping
pub mod Outlines
pub mod SlotCounts
pub mod Manners
pub mod LetterTags
