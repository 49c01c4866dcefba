-- What the public contracts of the crates above rest on, in reading order.
pub mod Held
pub mod Confined
pub mod FunctionTypes
pub mod Opaque
pub mod Reached
pub mod Origin
pub mod Sharing
pub mod Exported
pub mod Known
pub mod Facts
