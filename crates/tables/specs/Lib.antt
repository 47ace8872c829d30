pub mod Tables
pub mod Faults
pub mod Manners
pub mod Sorts
pub mod Lines
