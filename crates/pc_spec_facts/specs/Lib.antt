-- What the public contracts of the crates above rest on.
pub mod Recorded
pub mod Text
