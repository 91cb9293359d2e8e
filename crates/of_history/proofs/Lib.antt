pub mod LogLemmas
pub mod MarkLemmas
pub mod TurnLemmas
pub mod DifferingLemmas
pub mod EntryLemmas
pub mod ReasonLemmas
pub mod WayLemmas
