-- What the contracts of this crate say.
pub mod Kinds
pub mod Members
pub mod Made
pub mod Aliases
pub mod Sources
pub mod Captures
pub mod StepsLocal
