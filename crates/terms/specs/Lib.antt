-- What is said of a term by its tokens, as relations to the definitions of the crate theory. No public promise cites them.
pub mod Constants
pub mod Rows
pub mod TermForms
