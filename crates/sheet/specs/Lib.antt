pub mod Next
pub mod Put
pub mod Row
pub mod Size
pub mod Ticks
