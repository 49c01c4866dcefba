-- What the public contract rests on, in reading order.
pub mod Grouped
pub mod Wired
pub mod Full
-- How the contracts within the crate say what is made.
pub mod Numbers
pub mod Parts
pub mod Ready
pub mod Plan
pub mod Converted
pub mod Entries
pub mod Added
pub mod Reached
pub mod Once
pub mod Represented
pub mod Steps
pub mod Sound
pub mod Outgrown
pub mod Closed
pub mod Work
pub mod Arguments
pub mod Stages
pub mod Made
pub mod Stack
