-- What comes of the claims on a predicate, against the definitions of the crate theory. No public promise cites them.
pub mod Bounds
