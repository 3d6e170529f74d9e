pub mod Follow
pub mod Turn
pub mod Accounts
