pub mod Small
pub mod Write
pub mod Layout
pub mod Steps
pub mod Laws
