-- Laws on what each token adds to the lines of a clause.
pub mod Punctuation
pub mod NextTerms
pub mod ByMark
