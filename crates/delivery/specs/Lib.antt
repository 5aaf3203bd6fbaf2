pub mod World
pub mod Window
pub mod Statements
pub mod Example
