pub mod Times
pub mod Calls
pub mod Packets
pub mod Ends
