pub mod Told
pub mod Turns
pub mod Serves
pub mod Gathering
pub mod Connections
