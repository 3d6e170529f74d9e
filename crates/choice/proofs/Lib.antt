pub mod Rows
pub mod Ranking
pub mod Searches
pub mod Asked
pub mod NoSecond
