-- What the public contract rests on, beside the words of `pc_adapt`.
pub mod Adds
pub mod Only
pub mod Define
-- What the functions inside promise each other.
pub mod Helpers
