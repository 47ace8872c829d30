-- Laws on what stands on a page.
pub mod Puts
pub mod Places
pub mod Writing
