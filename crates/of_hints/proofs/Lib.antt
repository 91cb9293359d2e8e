pub mod SentenceLemmas
