-- What the contracts of this crate say.
pub mod Exports
pub mod Found
pub mod Subjects
pub mod Reaching
pub mod Building
pub mod Exporting
pub mod OneExport
pub mod Counting
