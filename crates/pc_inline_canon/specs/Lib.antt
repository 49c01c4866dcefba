-- What the contracts of this crate say.
pub mod Adapters
pub mod Callees
pub mod Hosts
pub mod Written
