-- The answers of the calls as types.
pub mod Examples
