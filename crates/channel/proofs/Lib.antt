pub mod Good
pub mod Held
pub mod Unique
