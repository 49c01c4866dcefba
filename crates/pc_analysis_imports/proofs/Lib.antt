-- For callers.
pub mod RunLemmas
pub mod ExportedLemmas
-- lists that are gone through
mod FoldLemmas
-- where items come from, and what arguments are found to be
mod OriginLemmas
mod FollowedLemmas
mod StepLemmas
mod WaysLemmas
mod OneWayLemmas
mod MarkLemmas
mod AmbiguousLemmas
mod GivenLemmas
mod FunctionLemmas
mod KnownLemmas
mod FindLemmas
mod NoteLemmas
mod EachLemmas
mod WrittenLemmas
