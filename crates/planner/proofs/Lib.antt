pub mod LoadRow
pub mod Walks
pub mod Writes
pub mod Planning
pub mod NoSecond
