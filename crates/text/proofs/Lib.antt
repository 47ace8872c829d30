-- Laws that callers use.
pub mod Cuts
-- the lines that an iterator has left
pub mod LinesLeft
pub mod PlainText
-- Parts and classes of bytes, by places; bytes as one number.
pub mod Parts
pub mod Classes
pub mod Halves
pub mod EightBytes
-- What the functions' proofs cite.
pub mod Finding
pub mod Counting
pub mod Fitness
pub mod PlainBytes
