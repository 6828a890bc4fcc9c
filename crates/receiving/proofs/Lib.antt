-- What is proved of the definitions, and what the proofs of several functions share.
pub mod TruthLaws
pub mod ReceivingLaws
pub mod Samples
pub mod NetworkLaws
mod JudgeLaws
