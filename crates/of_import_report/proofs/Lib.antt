mod AnswerLemmas
mod KeywordLemmas
pub mod RowLemmas
