-- What the proofs of several functions share.
mod FillLaws
