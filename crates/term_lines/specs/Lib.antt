-- What is written of a clause, token by token. No public promise cites it.
pub mod Texts
pub mod Drawings
