-- What the proofs of the entries share.
pub mod Entry
