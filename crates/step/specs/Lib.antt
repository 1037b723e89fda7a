-- What the contract of `outcome` cites, and forces as the machine holds them.
pub mod Given
pub mod Outcome
