-- What the public contracts rest on, in reading order.
pub mod Status
pub mod Ended
pub mod Answer
pub mod Said
