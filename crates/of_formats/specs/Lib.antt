pub mod Structs
pub mod Reading
pub mod Tables
pub mod Messages
