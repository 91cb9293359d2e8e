mod WayLemmas
pub mod TakenLemmas
pub mod FoundLemmas
pub mod SoFarLemmas
pub mod PlaceLemmas
pub mod PortLemmas
pub mod ReachedLemmas
