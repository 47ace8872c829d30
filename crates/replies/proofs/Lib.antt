-- Laws on the lines that are printed, and on where the pack ends.
pub mod PrintedLines
pub mod PackSearch
