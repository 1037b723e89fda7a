-- Whole numbers: the ring and its solver, order, size, tests, machine words and signed code, sums; lists that loops fill and scan; exact floats.
pub mod Ring
pub mod Solve
pub mod Order
pub mod Derive
pub mod Division
pub mod Size
pub mod Tests
pub mod Bits
pub mod Code
pub mod Machine
pub mod Sum
pub mod Filled
pub mod Scan
pub mod Floats
mod Examples
