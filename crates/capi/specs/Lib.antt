-- What the contracts of the exported functions cite: the results of the operations that write, in the form that a C caller gets.
pub mod Calls
