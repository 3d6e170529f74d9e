pub mod Rows
pub mod Ranks
pub mod Asks
