-- The parts of an energy as the code adds them up, with their sizes.
pub mod Parts
