pub mod Settings
pub mod Find
pub mod Place
