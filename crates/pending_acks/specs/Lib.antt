pub mod State
pub mod Fields
pub mod Gather
pub mod Steps
pub mod Runs
