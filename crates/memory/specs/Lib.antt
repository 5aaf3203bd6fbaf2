pub mod Sizes
pub mod Memory
