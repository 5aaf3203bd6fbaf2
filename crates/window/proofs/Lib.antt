pub mod Loads
pub mod Valid
pub mod Steps
pub mod Theorems
