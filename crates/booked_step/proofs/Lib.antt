-- What rests on a booked step's being the step that it makes, with its book.
pub mod BookedStep
