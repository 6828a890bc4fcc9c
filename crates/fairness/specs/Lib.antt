-- 03 §2 to §4: fair networks, and the ticks by which things arrive; statement C.
pub mod Timed
pub mod TimedLaws
pub mod PlanLaws
pub mod Networks
pub mod SideLaws
pub mod StateLaws
pub mod OldestLaws
pub mod CutsLaws
