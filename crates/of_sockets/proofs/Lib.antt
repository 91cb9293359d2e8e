pub mod FileLemmas
pub mod PauseLemmas
pub mod RefusalLemmas
