-- What the rows say: the setup from its row of numbers, and the answers of the operations as rows of numbers.
pub mod Rows
