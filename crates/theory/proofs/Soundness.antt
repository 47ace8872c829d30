-- From forms and sizes to whole derivations.
pub mod FormValues
pub mod Sizes
pub mod SubgoalForms
pub mod ResidualTold
pub mod Derivable
pub mod FormBounds
pub mod FormRanges
