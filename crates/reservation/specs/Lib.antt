-- What an answer from the tables says. No public promise cites it.
pub mod Answering
