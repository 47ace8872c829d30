-- How long the lines of a reply are, and what stands on the page after each.
pub mod ReplyLengths
pub mod QueryLines
pub mod ReplyLines
