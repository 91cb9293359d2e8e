pub mod NumberLemmas
pub mod WordLemmas
pub mod PieceLemmas
pub mod KeywordLemmas
