pub mod Text
pub mod Sights
pub mod Unsent
pub mod Words
pub mod Json
pub mod Notes
pub mod Files
pub mod OnlyNotes
