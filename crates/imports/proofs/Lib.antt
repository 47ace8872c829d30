-- Laws on whole texts, clause by clause.
pub mod ClauseByClause
pub mod ClauseRoom
pub mod Taking
pub mod Loops
pub mod ImportAnswers
