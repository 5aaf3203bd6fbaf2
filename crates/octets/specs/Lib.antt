pub mod Reader
pub mod Writer
pub mod Varint
pub mod Spelling
pub mod Steps
