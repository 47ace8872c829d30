-- Which tokens end a line. No public promise cites it.
pub mod LineEnds
