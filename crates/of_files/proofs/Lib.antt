pub mod LineLemmas
pub mod PlayLemmas
