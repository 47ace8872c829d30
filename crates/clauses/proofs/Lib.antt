-- Laws on the reading of a clause.
pub mod Advancing
pub mod Reading
