-- What the readers of names and variables say, as relations to the definitions of the crate theory. No public promise cites them.
pub mod Classes
pub mod Words
