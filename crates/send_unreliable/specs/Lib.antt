pub mod State
pub mod Fields
pub mod Sender
pub mod Round
pub mod Steps
pub mod Laws
