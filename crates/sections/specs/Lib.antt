-- What a walk over a text's lines finds. No public promise cites it.
pub mod Sections
