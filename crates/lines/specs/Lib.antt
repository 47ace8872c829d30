-- What the steps of a line need and leave by its letter, what the loops over lines and fields keep, and what loading lines leaves. No public promise cites them.
pub mod Steps
pub mod Between
pub mod LineLoading
