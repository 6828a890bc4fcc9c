-- What is proved of the definitions.
pub mod TakenLaws
pub mod AnswerLaws
pub mod SegmentLaws
pub mod CreditLaws
pub mod EdgeLaws
pub mod TooOldLaws
pub mod AllLaws
pub mod Theorems
