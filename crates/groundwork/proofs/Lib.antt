-- Laws that belong to no function: truth values, integers, bits, lists.
pub mod Truth
pub mod Difference
pub mod Ring
pub mod Order
pub mod Magnitude
pub mod Bits
pub mod Lists
pub mod Stretches
