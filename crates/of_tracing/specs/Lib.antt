pub mod Encoded
pub mod Why
