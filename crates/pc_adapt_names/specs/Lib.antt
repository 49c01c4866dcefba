-- What the laws rest on.
pub mod Same
pub mod Made
