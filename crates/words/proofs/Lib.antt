-- Laws that callers use.
pub mod WordLaws
pub mod WordKinds
pub mod Letters
-- What the functions' proofs cite.
pub mod ClassLaws
pub mod WordEnds
pub mod FewBytes
pub mod WordBytes
pub mod WordReading
pub mod FieldWords
