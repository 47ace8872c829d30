-- What is written of a whole clause. No public promise cites it.
pub mod WholeClauses
