-- A line's first field and its letter, and the letters that may stand here.
pub mod FirstField
pub mod Standing
-- A line's second field as a name.
pub mod NameReading
-- The tests of a line, one after another.
pub mod LetterTests
pub mod LineTests
-- What the functions' proofs cite.
pub mod LineArities
pub mod WrittenKinds
pub mod Declarations
pub mod Barred
pub mod Outcomes
pub mod LetterOpening
pub mod LineOpening
