-- What the public contracts rest on, in reading order.
pub mod Tree
pub mod Rules
pub mod Words
pub mod Names
pub mod Types
pub mod Record
pub mod Reads
