-- What the contracts cite beside the model and the laws: the finger's moves, a working of the finger's system, and what a step comes to at p.
pub mod Moves
pub mod Pair
pub mod FingerPoint
