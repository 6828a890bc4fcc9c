-- What the proofs of several functions share.
pub mod Resending
pub mod Cutting
pub mod Both
pub mod Probing
