-- What the public contracts of the crates above rest on, in reading order.
pub mod Split
pub mod Named
pub mod Needs
pub mod Asked
pub mod Import
pub mod Planned
pub mod Record
