-- What the public contract rests on, in reading order.
pub mod Plain
pub mod Standing
pub mod Program
pub mod Sound
-- What the functions inside promise each other.
pub mod Entries
pub mod Captured
pub mod Open
