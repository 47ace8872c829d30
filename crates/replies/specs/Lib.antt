-- What the parts of the program's reply say. No public promise cites them.
pub mod Replies
