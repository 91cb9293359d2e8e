mod AskedLemmas
mod GivingLemmas
pub mod Walking
