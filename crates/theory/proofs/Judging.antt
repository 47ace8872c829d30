-- Packs line by line, from what a line adds to what is wrong with it.

-- rules, keys, claims, variables
pub mod LastRule
pub mod RuleCounts
pub mod Keys
pub mod Kinds
pub mod ClaimsOn
pub mod Completeness
pub mod Heads
pub mod Variables
pub mod RuleVariables
pub mod VariableOrder
-- runs of lines, as what they add, and packs within the limits
pub mod Sections
pub mod Steps
pub mod OpenLines
pub mod Begun
pub mod Reached
pub mod Built
pub mod Runs
-- lines without a fault, letter by letter
pub mod Tests
pub mod LineKeys
pub mod Fitness
pub mod ResidualNumbers
pub mod Faultless
pub mod PredicateLines
pub mod ClaimLines
pub mod AtomLines
pub mod MultiplierLines
pub mod LineReading
pub mod LineWriting
pub mod LinesTold
pub mod Standing
pub mod LettersTold
-- the numbers of faults, and the first faulty line
pub mod FaultNumbers
pub mod UnjustifiedLines
pub mod JudgedLines
-- whole texts
pub mod PackReading
pub mod JudgedRuns
pub mod FineRuns
pub mod ButForHeads
pub mod Acceptance
pub mod VerdictRange
pub mod Locality
-- worked lines
pub mod Examples
