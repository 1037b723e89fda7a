-- What the contracts cite beside the model and the laws: the weighted string, how an array holds a string, and the ranges of what the moves are worked out from.
-- Then what these ranges give the code, also at a point, D1 of the weighted string, and the front of an array.
pub mod Weighted
pub mod MoveRanges
pub mod InRange
pub mod AtPoint
pub mod Linear
pub mod Front
