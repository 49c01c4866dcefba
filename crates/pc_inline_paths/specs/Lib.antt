-- What the public contracts rest on.
pub mod HeldPaths
pub mod Paths
-- What the functions inside promise each other.
pub mod Steps
