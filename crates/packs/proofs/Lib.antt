-- Loading and check.
pub mod FreshTables
pub mod LoadAnswers
pub mod AreaLaying
