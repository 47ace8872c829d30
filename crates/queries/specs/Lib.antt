-- What the tests of a query say, against the definitions of the crate theory. No public promise cites them.
pub mod Queries
