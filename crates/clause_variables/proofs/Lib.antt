-- Laws on a clause's variables.
pub mod Gathering
pub mod FreshSearch
pub mod Stopping
pub mod ClauseLoop
