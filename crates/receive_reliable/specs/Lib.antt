pub mod State
pub mod Fields
pub mod Receive
pub mod Repeats
pub mod Steps
pub mod Usage
