pub mod End
pub mod EndLaws
