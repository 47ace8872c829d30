-- The walk over lines that begin with a letter.
pub mod Walks
-- The sections of a pack, and the lines of a rule, by their letters.
pub mod SectionLines
pub mod HeadLines
-- Rules' lines in a row, for callers.
pub mod RuleRows
