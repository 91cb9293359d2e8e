pub mod Listing
pub mod Building
