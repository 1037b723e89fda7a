-- What sums of raised products come to; sums as loops add them up; the contact variables that are cleared; the numbers that are read one after the other.
pub mod Raised
pub mod Ends
pub mod Summing
pub mod Contacts
pub mod Lines
