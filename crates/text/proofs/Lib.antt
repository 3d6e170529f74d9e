pub mod Digits
pub mod Fields
pub mod Lines
pub mod Texts
pub mod Notes
pub mod Answers
pub mod NoSecond
