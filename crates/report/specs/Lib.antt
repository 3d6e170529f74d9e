pub mod Rounds
pub mod Refusals
