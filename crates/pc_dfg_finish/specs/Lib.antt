-- What the public contract rests on, in reading order.
pub mod Unnumbered
pub mod Headed
pub mod Apart
pub mod Uses
pub mod Renumbered
pub mod Finishes
pub mod ModuleTypes
-- How the contracts within the crate say what is made.
pub mod Exports
pub mod Taken
pub mod Instantiated
pub mod Whole
