pub mod Search
pub mod View
pub mod Moves
pub mod Tick
pub mod Still
