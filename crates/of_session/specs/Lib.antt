pub mod Stream
pub mod Session
