pub mod Adding
pub mod Beside
pub mod Checksums
pub mod Given
pub mod Knowing
pub mod Packets
pub mod Rules
