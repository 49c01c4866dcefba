-- What the public contracts of the crates above rest on, in reading order.
pub mod CoreValue
pub mod ExportNode
pub mod Log
pub mod PlanView
pub mod Machine
pub mod Trace
pub mod Counts
pub mod Text
