pub mod StructLaws
pub mod Binding
