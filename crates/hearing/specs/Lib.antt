pub mod Hearing
pub mod Judged
