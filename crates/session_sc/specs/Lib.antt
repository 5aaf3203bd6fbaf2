pub mod State
pub mod Fields
pub mod Lend
