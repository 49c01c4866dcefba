-- What the public contracts rest on.
pub mod ModuleTypes
pub mod Finished
pub mod Typed
pub mod Adapters
pub mod Adapted
pub mod Asked
pub mod Lists
pub mod Causes
pub mod Translation
-- What the functions inside promise each other.
pub mod Transparent
pub mod Recorded
pub mod Partitioned
pub mod Planning
