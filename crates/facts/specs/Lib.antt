-- What the end of a `G` line does, by the tables. No public promise cites it.
pub mod Ends
