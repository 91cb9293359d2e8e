pub mod Buckets
pub mod Groups
pub mod Chains
pub mod Faults
pub mod Sound
pub mod Liveness
pub mod Rounds
