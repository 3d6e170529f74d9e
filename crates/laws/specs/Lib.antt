pub mod Limits
pub mod NoSecond
