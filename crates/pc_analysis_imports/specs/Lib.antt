-- What the public contracts rest on.
pub mod Exported
pub mod Known
-- What the functions inside promise each other.
pub mod Followed
pub mod Ways
pub mod Marks
pub mod Marked
pub mod Imports
pub mod Found
