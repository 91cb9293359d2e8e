pub mod PrintingLemmas
pub mod FieldLemmas
pub mod SightLemmas
pub mod NotingLemmas
pub mod NoteLemmas
