pub mod LeadingLemmas
mod JsonLemmas
