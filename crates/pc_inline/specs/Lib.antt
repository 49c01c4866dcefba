-- What the contracts of this crate say.
pub mod Widths
pub mod Inlines
pub mod Roots
