pub mod DigitLemmas
pub mod WordLemmas
pub mod RowLemmas
