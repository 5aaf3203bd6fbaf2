pub mod Calls
pub mod Fields
pub mod Sound
pub mod State
