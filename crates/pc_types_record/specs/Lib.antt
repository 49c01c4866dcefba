-- What the public contracts rest on, beside the words of pc_types: the places of imports.
pub mod Places
-- What the functions inside promise each other.
pub mod Indexed
pub mod Index
