-- what is planned
pub mod PlannedLemmas
-- what values and entries name, and what adapters need
pub mod NamedLemmas
