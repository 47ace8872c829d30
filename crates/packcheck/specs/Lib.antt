-- What the printing of answers says. No public promise cites it.
pub mod Printing
