pub mod FileRows
pub mod Pauses
pub mod Calls
pub mod Refusals
pub mod Silence
