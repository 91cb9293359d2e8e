pub mod Ranked
pub mod Kinded
