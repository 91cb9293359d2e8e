pub mod Said
pub mod Frames
pub mod Conditions
pub mod Refusals
pub mod Views
pub mod Printed
pub mod Fields
