-- What the public contracts rest on, in reading order.
pub mod Table
pub mod Bodies
pub mod Generated
pub mod Count
pub mod Valid
