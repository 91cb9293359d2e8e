pub mod Sets
pub mod Storage
