-- Laws on what is written of a clause.
pub mod DrawnTexts
pub mod DrawnLimits
pub mod Moving
pub mod Drawing
pub mod Pieces
