pub mod Window
pub mod Marks
pub mod History
