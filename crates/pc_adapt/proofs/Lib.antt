-- what stands in function types
mod FactLemmas
-- what is planned, by values
pub mod PlannedLemmas
-- which adapter lacks an option
mod LackLemmas
-- imports part by part
mod ImportLemmas
