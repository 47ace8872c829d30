pub mod Weights
pub mod Multipliers
