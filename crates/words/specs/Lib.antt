pub mod Sizes
pub mod Refusal
pub mod Choice
pub mod Lists
pub mod Pieces
