pub mod Config
pub mod Counters
pub mod Ports
pub mod Sound
pub mod Editing
