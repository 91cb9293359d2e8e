pub mod TurnLemmas
pub mod CutLemmas
pub mod Steps
pub mod ConnectionLemmas
