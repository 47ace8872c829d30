-- Laws on the tokens of a term, for the loop that scans them from the left.

-- what one token is read as; whether tokens write a term
pub mod TokenKinds
pub mod SymbolTokens
pub mod WordEnding
pub mod TokenEnds
pub mod NextTokens
pub mod FirstTerms
pub mod Scan
-- a term's arities and variables as those of its tokens
pub mod TermTokens
pub mod TokenLoop
-- an argument that is empty, or begins with a capital
pub mod LoneVariables
