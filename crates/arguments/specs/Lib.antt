pub mod Sizes
pub mod Arguments
pub mod Said
