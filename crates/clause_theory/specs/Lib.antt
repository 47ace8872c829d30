-- The definitions of document 02, 6/14, in reading order.
pub mod ClauseTokens
pub mod Cutting
pub mod Clauses
pub mod Import
pub mod Importations
pub mod Imported
