-- What the public contract rests on, beside the words of the crates below.
pub mod Facts
pub mod Parts
pub mod Made
pub mod Partitions
pub mod Wired
pub mod Adapted
-- What the functions inside promise each other.
pub mod Gathered
