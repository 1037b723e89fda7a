-- What the proofs of a step share.
pub mod Called
