-- What the contracts cite beside the model: what a bit of the root leaves to be found, the contacts of all points, the list of
-- pressed points, and the gradients put in at them.
pub mod Halving
pub mod Pressed
pub mod Contacts
pub mod PutIn
