-- Importing clauses: what the reader reads, what stands for a lone `_`, and what becomes of a text.

-- the reader, mark by mark, and where it stands after some marks
pub mod Running
pub mod Leading
-- the tokens of a text
pub mod Cutting
pub mod SpelledMarks
pub mod SpelledTokens
pub mod PlainTexts
pub mod RoomEnough
-- fresh variables, and a clause filled with them
pub mod Distinct
pub mod FreshVariables
pub mod Freshness
pub mod Filling
pub mod FilledVariables
pub mod FreshNumbering
pub mod Fills
-- the limits and the lines of a clause
pub mod ClauseLimits
pub mod VariableLimits
pub mod ClauseLines
-- whole texts
pub mod ImportOutcomes
pub mod OneOutcome
pub mod Examples
-- all that is promised
pub mod ImportKept
