pub mod Subgoals
pub mod Ends
