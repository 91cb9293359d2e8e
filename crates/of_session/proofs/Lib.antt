pub mod Compacting
pub mod Fronts
pub mod Splitting
pub mod Nexts
