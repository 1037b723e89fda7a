pub mod Table
pub mod AtPlace
