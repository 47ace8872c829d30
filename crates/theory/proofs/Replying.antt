-- The program's reply: the input cut into its pack and its queries.

-- the input line by line
pub mod PackLines
pub mod LinesTold
-- where the pack ends
pub mod Divisions
-- worked examples
pub mod Examples
