pub mod WordLemmas
pub mod SaidLemmas
pub mod LawLemmas
mod PrintedLemmas
mod ConditionLemmas
mod FieldLemmas
