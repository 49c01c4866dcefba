-- What the public contracts rest on.
pub mod Tabulated
pub mod Users
pub mod Plain
pub mod Needed
pub mod Parts
pub mod Entries
pub mod Labels
pub mod Steps
pub mod Adds
