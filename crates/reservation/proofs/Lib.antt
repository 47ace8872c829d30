-- What the answers from the tables come to, and what they pass on.
pub mod QueryAnswers
