-- What the public contract rests on.
pub mod Context
pub mod Opaque
-- What the functions inside promise each other.
pub mod Opened
