pub mod Read
pub mod Theorems
pub mod Parts
