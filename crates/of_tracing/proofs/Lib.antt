pub mod EncodedLemmas
pub mod WhyLemmas
pub mod ReasonLemmas
