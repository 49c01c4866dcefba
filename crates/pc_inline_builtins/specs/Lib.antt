-- What the contracts of this crate say.
pub mod Written
pub mod Reads
pub mod Made
pub mod Contexts
