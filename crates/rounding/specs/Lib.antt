-- What the contracts cite beside the model: a two-by-two system as the code has it. Then when two systems are the same.
pub mod Systems
pub mod Same
