pub mod PushLemmas
pub mod ReadingLemmas
mod InstructionLemmas
mod MatchLemmas
mod WordLemmas
