pub mod Say
pub mod Refused
pub mod Spelled
pub mod Digest
