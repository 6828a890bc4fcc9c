-- 03 §2 to §4: counting over ticks, with no end in sight; the bounds.
pub mod Count
pub mod CountLaws
pub mod Bounds
pub mod Variants
pub mod Turns
pub mod TimerLaws
