pub mod Tests
pub mod Splice
pub mod Suffix
pub mod Lists
pub mod Tables
pub mod Entries
pub mod Unique
