-- 01 §5: one bit for each position, and what is done to a stretch of them.
pub mod Marks
pub mod MarkLaws
pub mod Stretches
pub mod ByteLaws
