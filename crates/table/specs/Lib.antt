pub mod Layout
pub mod LayoutLaws
pub mod Rows
pub mod ReadyLaws
