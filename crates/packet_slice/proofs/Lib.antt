pub mod Read
pub mod Wrote
pub mod Judge
pub mod Spelt
pub mod Written
pub mod Theorems
