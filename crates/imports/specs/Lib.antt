-- What comes of one clause. No public promise cites it.
pub mod Takings
