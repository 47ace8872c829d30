-- What the scanners say, as relations to the definitions of the crate theory. No public promise cites them.
pub mod Scans
pub mod ByteNumbers
pub mod Lines
