-- What the public contract rests on, in reading order.
pub mod Canon
pub mod Module
pub mod Payload
pub mod Input
-- What the functions inside promise each other.
pub mod Takes
pub mod Content
pub mod Root
