-- What the public contracts rest on.
pub mod Classes
pub mod Digraph
pub mod Evaporation
pub mod Laws
pub mod Listed
pub mod Numbered
pub mod Steps
pub mod Tour
-- What the functions inside promise each other.
pub mod Noting
pub mod Searching
