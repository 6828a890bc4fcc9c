-- What the proofs of several functions share.
mod FindLaws
mod SearchLaws
