-- 01 §6: segments, steps 2 and 3 of a tick, what their functions promise, and laws.
pub mod Segments
pub mod Steps
pub mod Outcome
pub mod WireLaws
pub mod SegmentLaws
pub mod StepLaws
