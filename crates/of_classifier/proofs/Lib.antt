pub mod Best
pub mod Given
pub mod Finding
pub mod WinnerLaw
pub mod SameUsed
pub mod Alike
