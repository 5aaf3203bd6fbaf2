pub mod Tables
pub mod Pieces
pub mod Lengths
pub mod Turns
pub mod Wrote
pub mod Theorems
pub mod Round
