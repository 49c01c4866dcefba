-- What the tests rest on.
pub mod Two
