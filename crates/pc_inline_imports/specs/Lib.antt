-- What the contracts of this crate say.
pub mod Given
pub mod Learns
pub mod Brings
pub mod Trims
