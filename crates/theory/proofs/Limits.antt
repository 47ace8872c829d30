-- The limits, as worked examples.
pub mod Examples
