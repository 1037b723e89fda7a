-- What a booked step books, by the states before and after it; that it is its step, with its book; and what it makes of the state of a ready voice.
pub mod Booking
pub mod BookedStep
pub mod BookedAdvance
