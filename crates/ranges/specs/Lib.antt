-- What the proofs of scans share.
pub mod Scan
