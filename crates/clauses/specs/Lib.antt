-- What the readers of a clause give. No public promise cites it.
pub mod Standings
pub mod Endings
