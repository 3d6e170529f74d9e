pub mod Walks
pub mod Ends
pub mod Accounts
pub mod Tells
pub mod Answers
pub mod Reasons
pub mod NoSecond
