pub mod Rows
pub mod Winner
pub mod Scanning
pub mod Looking
