pub mod Changed
pub mod RegionWords
pub mod Telling
pub mod EntryHits
pub mod DiffWords
pub mod DiffJson
pub mod DiffFiles
