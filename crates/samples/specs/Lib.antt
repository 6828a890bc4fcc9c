-- 03 §2 and §3: runs, computed, which show that the assumptions of statement C can be met, and how close the bounds are.
pub mod Computing
pub mod Lossy
pub mod Edge
