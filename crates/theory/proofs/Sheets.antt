-- The sheet of a pack.
pub mod Widths
pub mod SheetLines
pub mod SheetWords
pub mod SheetColumns
