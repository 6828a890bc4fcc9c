-- What the proofs of this crate's functions need.
mod Rows
