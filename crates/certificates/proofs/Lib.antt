-- Laws that callers use: MultiplierLines. The rest is for those and for the functions' own proofs.
pub mod Weighing
pub mod MultiplierFields
pub mod HeadWeights
pub mod WeightBounds
pub mod LineResiduals
pub mod MultiplierTables
pub mod MultiplierAnswers
pub mod MultiplierLines
