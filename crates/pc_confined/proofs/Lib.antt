-- Sound scopes, and what holds of a result by its steps.
mod Sound
mod Steps
-- What belongs goes on belonging.
mod GrowthLemmas
-- What a scope and a log may be given, and what a sound scope has.
mod ScopeLemmas
mod FoundLemmas
mod ValueLemmas
-- Each item keeps a moment sound.
mod AddLemmas
mod RowLemmas
-- A reading that is done is confined.
mod PrepareLemmas
mod NodeLemmas
mod ReadLemmas
pub mod ConfinedLemmas
-- What is reached from a transparent adapter.
pub mod ReachLemmas
-- Runs of plans.
mod MarkLemmas
mod TraceLemmas
pub mod RunLemmas
