-- A row as a form, its sums, and whether they are below 0: for the functions' own proofs.
pub mod Rows
pub mod Signs
pub mod Sums
-- What the sums stand for, which callers use.
pub mod WeightedSums
pub mod FormNumbers
pub mod AtomSums
