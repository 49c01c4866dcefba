-- Worked rows.
pub mod TwoAdapters
pub mod OtherPlans
pub mod Logs
pub mod Memories
pub mod Runs
