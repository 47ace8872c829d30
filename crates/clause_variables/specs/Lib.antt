-- What is gathered of a clause's variables. No public promise cites it.
pub mod Variables
pub mod FreshNumbers
