pub mod Lists
pub mod Spots
pub mod Valid
pub mod Chosen
pub mod Gives
pub mod Lowest
pub mod Held
pub mod Theorems
