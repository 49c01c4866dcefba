-- What the contracts of this crate say.
pub mod Totals
pub mod Reads
pub mod Driving
pub mod Stacks
pub mod Calls
pub mod Begins
