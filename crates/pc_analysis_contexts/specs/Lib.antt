-- What the public contract rests on.
pub mod Cores
pub mod Recorded
-- What the functions inside promise each other.
pub mod Indexed
pub mod Keys
pub mod Homes
pub mod Shared
