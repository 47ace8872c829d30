-- The steps of a line, by its letter.
pub mod Steps
pub mod FieldLoop
pub mod ZeroFields
pub mod EndLines
pub mod LineEnds
pub mod JudgedLines
-- The lines of a text.
pub mod LineLoop
pub mod Turns
