pub mod Ingress
pub mod Ways
pub mod Reasons
pub mod Paths
pub mod SoFar
pub mod Places
pub mod EachPort
