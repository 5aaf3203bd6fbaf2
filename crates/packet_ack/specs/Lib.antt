pub mod Ack
pub mod Write
pub mod Layout
pub mod Steps
