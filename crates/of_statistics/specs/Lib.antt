pub mod Replies
pub mod Durations
pub mod Descriptions
pub mod Flows
pub mod Adding
pub mod Ports
pub mod Groups
