pub mod Ticking
pub mod TickingLaws
