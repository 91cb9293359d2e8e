pub mod FoldLemmas
pub mod ReplyLemmas
pub mod ReportLemmas
pub mod RequestLemmas
pub mod SaidLemmas
pub mod ToldLemmas
