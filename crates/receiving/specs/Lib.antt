-- 01 §5: definitions, what the calls ensure, and laws.
pub mod Receiving
pub mod Calls
pub mod CellLaws
pub mod ReadLaws
pub mod RefusalLaws
pub mod AckLaws
pub mod Truth
