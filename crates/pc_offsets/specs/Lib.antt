-- What the public contracts rest on, in reading order.
pub mod PtrWidth
pub mod Layout
pub mod Context
