pub mod Refusals
pub mod Failures
pub mod Items
pub mod Highest
pub mod Numbered
pub mod Parts
pub mod CodeNames
pub mod Reasons
