-- What the public contracts rest on, beside the text of a plan in `pc_spec_plan`.
pub mod FaultText
pub mod UsageText
pub mod ContextText
pub mod SummaryText
-- What the functions inside promise each other.
pub mod Placed
pub mod ExportWalk
pub mod TrampolineText
