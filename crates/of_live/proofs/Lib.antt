mod Passing
pub mod Doing
pub mod Messages
mod Recording
mod Turning
pub mod Ending
mod HeaderLemmas
