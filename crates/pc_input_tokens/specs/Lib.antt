-- What the public contracts rest on, in reading order.
pub mod Shape
pub mod Borrowed
pub mod Takes
-- What the functions inside promise each other.
pub mod Keys
pub mod Values
