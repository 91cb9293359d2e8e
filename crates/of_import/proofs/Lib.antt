pub mod ParsedLinesLemmas
pub mod RowLemmas
pub mod NumberLemmas
pub mod DigestLemmas
pub mod KeptLemmas
pub mod ImportLemmas
pub mod NoteLemmas
pub mod CounterLemmas
