-- What the public contracts rest on, in reading order.
pub mod Capped
pub mod Weighs
-- What the functions inside promise each other.
pub mod Local
pub mod Scale
