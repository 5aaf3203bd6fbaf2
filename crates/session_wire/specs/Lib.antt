pub mod Lend
pub mod Wire
