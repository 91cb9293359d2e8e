pub mod CoverLemmas
pub mod ListingLemmas
pub mod PlainLemmas
pub mod ReachedLemmas
pub mod RivalLemmas
pub mod RowLemmas
pub mod VerdictLemmas
pub mod WordLemmas
