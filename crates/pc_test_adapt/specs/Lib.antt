-- The rows, and what is computed for them.
pub mod Words
pub mod Strings
pub mod Two
pub mod Async
