-- Which atom a line states; a field of such a line.
pub mod StatedAtoms
pub mod TermFields
pub mod TermRows
-- The laws that callers use of a line's terms.
pub mod AtomLines
