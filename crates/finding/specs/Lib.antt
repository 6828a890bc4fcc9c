-- 01 §5: what is found in a stretch of marks.
pub mod Finding
pub mod Search
