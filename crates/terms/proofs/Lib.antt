-- Laws on the size and the variables of a term, by its tokens.

-- a term's constant, and what measure answers
pub mod Totals
pub mod AritySums
pub mod Measures
-- a rule's variables, numbered and counted one at a time
pub mod Numbering
pub mod Counting
-- what the functions that count a row's occurrences cite
pub mod RowStores
pub mod OneOccurrence
pub mod VariableTable
pub mod RowCounting
pub mod Tally
pub mod PlaceLoop
-- both steps
pub mod FormRows
