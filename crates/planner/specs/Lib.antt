pub mod Loads
pub mod Runs
