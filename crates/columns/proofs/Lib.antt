-- What stands in a column, and on a line of columns.
pub mod Columns
pub mod Line
