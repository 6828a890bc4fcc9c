-- 01 §5: bytes and marks by position, and what each step does to them.
pub mod Marks
pub mod MarkLaws
pub mod Steps
