pub mod Fields
pub mod Ends
