pub mod Lists
pub mod Queue
pub mod Valid
pub mod Spots
pub mod Walk
pub mod Gives
pub mod Order
pub mod Theorems
