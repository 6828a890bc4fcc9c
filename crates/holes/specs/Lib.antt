-- Where bytes may be copied at once, and laws of what arrives, for cells and marks of any kind.
pub mod Holes
pub mod FillingLaws
pub mod FilledLaws
