-- What is promised of the voice of documents 01 and 02: the statements, and closed instances of them.
pub mod Promises
pub mod Energy
pub mod Book
pub mod Frets
pub mod Symmetry
pub mod Instances
mod EnergyInstances
mod BookInstances
mod FretInstances
mod SymmetryInstances
