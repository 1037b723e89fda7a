-- The proofs of the promises, in `Demands`, and the laws that rest on the balance of a step: lists of calls, and books kept over them.
pub mod Run
pub mod Booking
pub mod BookedRun
pub mod Demands
mod Witness
mod SymmetryWitness
