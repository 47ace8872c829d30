-- Laws for the functions' own proofs.
pub mod Numbers
pub mod Weighing
pub mod Using
pub mod Resuming
pub mod Reserving
