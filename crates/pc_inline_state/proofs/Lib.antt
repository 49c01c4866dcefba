-- What the functions of this crate rest on, and those of the crates above: the public ones are theirs too.
pub mod ZipLemmas
pub mod FitsLemmas
mod LookupLemmas
mod NumberLemmas
pub mod MembersLemmas
mod KeyLemmas
pub mod PlacedLemmas
pub mod StateLemmas
pub mod TypeKeptLemmas
pub mod InstanceLemmas
pub mod TrailLemmas
pub mod PathLemmas
pub mod EntryLemmas
pub mod RefusedLemmas
pub mod GrowthLemmas
pub mod HoldsLemmas
pub mod KnowsLemmas
pub mod AddsPushLemmas
pub mod GainedLemmas
pub mod AddsLemmas
pub mod PushedLemmas
pub mod IntrinsicLemmas
mod FoundLemmas
