pub mod Found
pub mod Lists
