mod ActionLemmas
pub mod AlikeLemmas
pub mod EmissionLemmas
pub mod Agreeing
pub mod AgreeingRuns
pub mod EmittingLemmas
pub mod SendingLemmas
pub mod IngressPortLemmas
pub mod ChangedLemmas
pub mod HitLemmas
pub mod CopyLemmas
pub mod SameGroupLemmas
pub mod SameRunLemmas
