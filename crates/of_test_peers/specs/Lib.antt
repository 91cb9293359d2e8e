pub mod Peers
pub mod Network
