-- What the number readers say, as relations to the definitions of the crate theory. No public promise cites them.
pub mod Numbers
pub mod Zeros
