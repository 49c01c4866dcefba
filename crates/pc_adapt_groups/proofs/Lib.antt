-- The layers above rest on these.
pub mod RunLemmas
pub mod OrderLemmas
pub mod NameLemmas
pub mod StepLemmas
pub mod NeedLemmas
-- which runs are the fewest
mod GroupLemmas
-- what definitions name
mod TopLemmas
mod GivesLemmas
-- what side effects use
mod UseLemmas
