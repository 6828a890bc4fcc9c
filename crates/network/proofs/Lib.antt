-- What is proved of the definitions.
pub mod RunLaws
pub mod Theorems
pub mod Samples
