pub mod Valid
pub mod Spots
pub mod Answers
pub mod Gives
pub mod Theorems
