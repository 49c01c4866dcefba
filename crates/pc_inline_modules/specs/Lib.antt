-- What the contracts of this crate say.
pub mod Sources
pub mod Grouped
pub mod Given
