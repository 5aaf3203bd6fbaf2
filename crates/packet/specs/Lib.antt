pub mod Packet
pub mod Write
pub mod Layout
pub mod Vectors
pub mod Steps
