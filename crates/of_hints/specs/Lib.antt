pub mod Layout
pub mod Sentences
