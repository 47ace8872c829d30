-- When a sheet can be written. No public promise cites it.
pub mod Readiness
