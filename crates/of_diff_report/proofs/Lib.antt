mod VerdictLemmas
mod AppendLemmas
mod RegionLemmas
mod TellingLemmas
mod ChangedLemmas
