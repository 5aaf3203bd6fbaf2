pub mod Reader
pub mod Read
pub mod Write
pub mod Back
pub mod Runs
pub mod Forms
pub mod Exact
pub mod Theorems
