-- What the public contracts rest on.
pub mod Walks
pub mod Leads
pub mod Names
-- What the functions inside promise each other.
pub mod Kept
pub mod Steps
