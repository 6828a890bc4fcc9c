-- What the proofs of several functions share.
mod TakeLaws
