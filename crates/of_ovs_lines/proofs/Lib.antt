pub mod LineLemmas
pub mod SoundLemmas
pub mod PortNameLemmas
