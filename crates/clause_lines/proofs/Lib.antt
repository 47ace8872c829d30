-- Laws on the lines of a whole clause.
pub mod FreshNumbers
pub mod ClauseDrawing
