-- What the public contracts rest on, in reading order.
pub mod Parts
pub mod Shape
pub mod Transcoding
pub mod View
-- What `==` is.
pub mod Exact
pub mod Fields
pub mod Made
pub mod Readers
pub mod Same
