-- Laws that rest on those of specs/: a filled list whole, and fractions of 2 ^ 20 as floats.
pub mod Filled
pub mod Floats
