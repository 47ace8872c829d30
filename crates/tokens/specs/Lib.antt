-- What the token reader says, as relations to the definitions of the crate theory. No public promise cites it.
pub mod TokenRows
