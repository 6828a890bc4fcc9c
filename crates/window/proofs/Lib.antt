-- What is proved of the definitions, and what the proofs of several functions share.
pub mod WindowLaws
pub mod MarksLaws
pub mod HistoryLaws
pub mod Marks
pub mod Steps
