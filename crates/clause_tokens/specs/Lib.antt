-- What the reader of tokens gives. No public promise cites it.
pub mod NextTokens
