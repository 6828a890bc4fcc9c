-- 03 §1: two ends, any network, and runs; statement B.
pub mod World
pub mod Rounds
pub mod Delivered
pub mod Truth
pub mod FlowLaws
pub mod Computing
