-- What the public contracts rest on, in reading order.
pub mod Mapped
pub mod Component
pub mod Definitions
pub mod Options
pub mod Known
pub mod Modules
pub mod Exports
pub mod View
pub mod Slots
pub mod Standing
pub mod Apart
