-- The ends of the lines.
pub mod Ends
pub mod AddedSlots
pub mod RuleSlots
-- What the lines say, and the laws that callers use.
pub mod HeadLines
pub mod SubgoalLines
