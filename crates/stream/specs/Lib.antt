pub mod Opening
pub mod OpeningLaws
pub mod Streams
pub mod StreamLaws
