-- What is written at its place in the output.
pub mod Output
