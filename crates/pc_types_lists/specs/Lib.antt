-- What the public contracts rest on.
pub mod Facts
pub mod Table
pub mod Types
pub mod Held
pub mod Known
pub mod Lending
pub mod Primitive
pub mod Trees
pub mod Interned
pub mod Labels
pub mod Added
pub mod Refusal
pub mod Adds
-- What the functions inside promise each other.
pub mod KeptFacts
pub mod View
pub mod Told
