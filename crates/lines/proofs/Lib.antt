pub mod Front
pub mod Steps
