pub mod Asked
pub mod Destinations
pub mod PathsWords
pub mod PathsJson
pub mod PathsFiles
