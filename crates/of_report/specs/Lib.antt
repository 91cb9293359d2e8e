pub mod Entries
pub mod Report
pub mod Json
pub mod Files
pub mod Shadowing
