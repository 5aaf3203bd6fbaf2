pub mod Page
pub mod Digits
pub mod Digests
pub mod Spelling
pub mod Vectors
pub mod Back
pub mod Theorems
