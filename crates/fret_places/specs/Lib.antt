-- What the proofs of the fret places share.
pub mod Powers
pub mod Clash
