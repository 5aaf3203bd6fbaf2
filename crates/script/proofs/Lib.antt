pub mod Words
pub mod Numbers
pub mod Parts
pub mod Vectors
pub mod Theorems
