-- What the public contracts rest on.
pub mod Least
pub mod Partition
-- What the functions inside promise each other.
pub mod Firsts
pub mod Pairs
