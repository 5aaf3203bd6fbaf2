pub mod Pack
pub mod Encode
pub mod Rows
pub mod Steps
pub mod Laws
pub mod Round
