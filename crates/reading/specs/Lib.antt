-- Laws of the newest of two.
pub mod Newest
