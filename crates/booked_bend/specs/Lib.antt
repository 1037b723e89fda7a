-- A booked bend of a state, and by the turn that of a voice.
pub mod BookedBend
