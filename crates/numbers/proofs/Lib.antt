-- Laws that callers use.
pub mod ZeroLaws
-- What the functions' proofs cite.
pub mod ZeroRuns
pub mod NaturalReading
pub mod IntegerReading
