mod LineLemmas
pub mod ListingLemmas
