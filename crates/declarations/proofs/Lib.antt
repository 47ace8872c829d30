-- What the functions' proofs cite.
pub mod ClaimFields
pub mod Laying
-- What each line does to the tables, against what it writes.
pub mod ClaimTable
pub mod OwedRules
pub mod PredicateLines
pub mod ClaimLines
