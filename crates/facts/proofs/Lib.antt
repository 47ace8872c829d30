-- Laws that callers use.
pub mod FactLines
-- What those and the functions' proofs cite.
pub mod Values
pub mod Ends
pub mod Meeting
