pub mod State
pub mod Fields
pub mod Collect
pub mod Whole
pub mod Steps
pub mod Arrivals
