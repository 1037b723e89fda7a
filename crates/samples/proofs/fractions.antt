-- What the proofs of both formats share.
mod Quotient
