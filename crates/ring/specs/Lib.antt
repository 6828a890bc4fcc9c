-- 01 §1: the ring, and laws of its stretches.
pub mod Ring
pub mod SpanLaws
