pub mod State
pub mod Fields
pub mod Rule
pub mod Window
pub mod Steps
pub mod History
