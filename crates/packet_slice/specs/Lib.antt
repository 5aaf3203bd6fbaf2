pub mod Slice
pub mod Write
pub mod Layout
pub mod Steps
