pub mod State
pub mod Fields
pub mod Calls
pub mod Sound
