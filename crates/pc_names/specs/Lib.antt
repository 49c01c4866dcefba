-- What the public contracts rest on.
pub mod Track
pub mod Inserted
pub mod Contents
pub mod Stands
pub mod NameError
-- What the functions inside promise each other, and the laws of the interners here.
pub mod Definitions
pub mod Tracks
pub mod Steps
pub mod Keys
