pub mod Packets
pub mod Rounds
pub mod Lent
