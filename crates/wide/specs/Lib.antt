-- Two words: what the size of their number says of them, and the sums, the order and the halves that the code goes by.
pub mod Words
