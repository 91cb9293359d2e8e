pub mod Fields
pub mod Bits
pub mod Layers
pub mod Reading
pub mod WellFormed
pub mod Looking
