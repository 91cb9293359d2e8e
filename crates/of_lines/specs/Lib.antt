pub mod Lines
pub mod Numbers
pub mod Names
pub mod Rows
pub mod Reading
pub mod Order
