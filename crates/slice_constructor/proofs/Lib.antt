pub mod Valid
pub mod Part
pub mod Whole
pub mod Order
pub mod Unique
pub mod Arrivals
