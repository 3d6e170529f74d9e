pub mod Guarantees
pub mod Texts
