pub mod Places
pub mod Rows
pub mod Lines
pub mod Theorems
